-- Each event of a watcher leaves a record that meets what the progress invariant says of a watcher.
use Rattle.std.proofs.Common.{◌≡◌, ℕ, ◌+◌, ◌≤◌, ◌⊎◌, inl, inr, Bool, true, false, refl, sym, subst, arith, eqb}
use Rattle.std.proofs.lemmas.Bool.{eqb-true}
use Rattle.prgr_core.specs.declared.watcher.Delay.{Delay}
use Rattle.prgr_core.specs.declared.watcher.Delay.TheVariants.{Even, Odd}
use Rattle.prgr_core.specs.declared.watcher.Phase.{Phase}
use Rattle.prgr_core.specs.declared.watcher.Phase.TheVariants.{Idle, Loaded, Added, Moved, Both, Claimed, Leaving}
use Rattle.prgr_core.specs.declared.watcher.Watcher.{Watcher}
use Rattle.prgr_core.specs.Watchers.{delay_of, other_delay, of_delay, holds_delay, HasWatched, HasClaim, IsClaimed, HoldsNone, HoldsBoth, HoldsAlone, HoldsIn, may_add, is_claimed, phase_seeing, counter_watched, phase_holding, delay_added, root_watched, delay_dropped}
use Rattle.prgr_core.specs.Invariant.{WatcherInvariant}
use Rattle.prgr_core.proofs.Parts.{if_each}
use Rattle.prgr_core.proofs.Delays.{same_delay, different_delay}

-- ---- claims

-- a claim goes with the count of its counter
pub claim_holds : (phase : Phase) (even odd : Bool) (c : ℕ) → HasClaim phase c → HoldsIn phase even odd → of_delay (delay_of c) even odd ≡ true
claim_holds (Claimed x) even odd c claim held = subst (λ (n : ℕ). of_delay (delay_of n) even odd ≡ true) claim held
claim_holds phase even odd c claim held = absurd claim

-- ---- a load of the counter

-- a claim after a load of the counter is of that counter, or was one before
pub seen_claim : (counter : ℕ) (phase : Phase) (c : ℕ) → HasClaim (phase_seeing counter phase) c → (counter ≡ c) ⊎ HasClaim phase c
seen_claim counter (Added x) c claim =
    if_each (λ (p : Phase). HasClaim p c → (counter ≡ c) ⊎ HasClaim (Added x) c) (eqb counter x) (Claimed counter) (Moved (delay_of x))
    (λ _ is. inl is) (λ _ is. absurd is) claim
seen_claim counter Both c claim = inl claim
seen_claim counter (Claimed x) c claim = inr claim
seen_claim counter phase c claim = absurd claim

-- who has a claim keeps it
seen_still : (counter : ℕ) (phase : Phase) → IsClaimed phase → phase_seeing counter phase ≡ phase
seen_still counter (Claimed x) claim = refl
seen_still counter phase claim = absurd claim.1

seen_watched : (counter : ℕ) (phase : Phase) (c : ℕ) → HasWatched (phase_seeing counter phase) c → counter ≡ c
seen_watched counter Idle c watched = watched
seen_watched counter (Loaded x) c watched = watched
seen_watched counter (Added x) c watched =
    if_each (λ (p : Phase). HasWatched p c → counter ≡ c) (eqb counter x) (Claimed counter) (Moved (delay_of x))
    (λ _ none. absurd none) (λ _ none. absurd none) watched
seen_watched counter phase c watched = absurd watched

holds_either : (d : Delay) (even odd : Bool) → HoldsBoth even odd → of_delay d even odd ≡ true
holds_either Even even odd both = both.0
holds_either Odd even odd both = both.1

seen_holds : (counter : ℕ) (phase : Phase) (even odd : Bool) → HoldsIn phase even odd → HoldsIn (phase_seeing counter phase) even odd
seen_holds counter (Added x) even odd held =
    if_each (λ (p : Phase). HoldsIn p even odd) (eqb counter x) (Claimed counter) (Moved (delay_of x))
    (λ same. subst (λ (n : ℕ). of_delay (delay_of n) even odd ≡ true) (sym (eqb-true counter x same)) held.0) (λ _. held)
seen_holds counter Both even odd held = holds_either (delay_of counter) even odd held
seen_holds counter phase even odd held = held

-- ---- a count raised

-- the claims are those before
pub added_claim : (phase : Phase) (c : ℕ) → HasClaim (phase_holding phase) c → HasClaim phase c
added_claim Idle c claim = claim
added_claim phase c claim = claim

claim_added : (phase : Phase) (c : ℕ) → HasClaim phase c → HasClaim (phase_holding phase) c
claim_added Idle c claim = claim
claim_added phase c claim = claim

added_watched : (phase : Phase) (c : ℕ) → HasWatched (phase_holding phase) c → HasWatched phase c
added_watched (Moved d) c watched = absurd watched
added_watched phase c watched = watched

holds_neither : (d : Delay) (even odd : Bool) → HoldsNone even odd → of_delay d even odd ≡ false
holds_neither Even even odd none = none.0
holds_neither Odd even odd none = none.1

-- a count that may be raised is not held
pub adds_new : (phase : Phase) (d : Delay) (even odd : Bool) → may_add phase d ≡ true → HoldsIn phase even odd → of_delay d even odd ≡ false
adds_new (Loaded x) d even odd may held = holds_neither d even odd held
adds_new (Moved e) d even odd may held = subst (λ (f : Delay). of_delay f even odd ≡ false) (sym (different_delay d e may)) held.1
adds_new phase d even odd may held = absurd (cc)

-- the first count that is raised is held alone
holds_first : (d : Delay) (even odd : Bool) → HoldsNone even odd → HoldsAlone d (of_delay d true even) (of_delay d odd true)
holds_first Even even odd none = (refl, none.1)
holds_first Odd even odd none = (refl, none.0)

-- with the other count raised too both are held
holds_second : (d : Delay) (even odd : Bool) → HoldsAlone d even odd → HoldsBoth (of_delay (other_delay d) true even) (of_delay (other_delay d) odd true)
holds_second Even even odd alone = (alone.0, refl)
holds_second Odd even odd alone = (refl, alone.0)

added_holds : (phase : Phase) (d : Delay) (even odd : Bool) → may_add phase d ≡ true → HoldsIn phase even odd → HoldsIn (phase_holding phase) (of_delay d true even) (of_delay d odd true)
added_holds (Loaded x) d even odd may held = subst (λ (e : Delay). HoldsAlone e (of_delay d true even) (of_delay d odd true)) (same_delay d (delay_of x) may) (holds_first d even odd held)
added_holds (Moved e) d even odd may held = subst (λ (f : Delay). HoldsBoth (of_delay f true even) (of_delay f odd true)) (sym (different_delay d e may)) (holds_second e even odd held)
added_holds phase d even odd may held = absurd (cc)

-- ---- the root, and a count lowered

pub is_claimed_true : (phase : Phase) → is_claimed phase ≡ true → IsClaimed phase
is_claimed_true (Claimed x) e = (x, refl)
is_claimed_true phase e = absurd (cc)

-- the last count that is lowered leaves none held
holds_no_more : (d : Delay) (even odd : Bool) → of_delay (other_delay d) even odd ≡ false → HoldsNone (of_delay d false even) (of_delay d odd false)
holds_no_more Even even odd other = (refl, other)
holds_no_more Odd even odd other = (other, refl)

-- whoever has lowered a count is leaving, or idle where it holds no other
dropped_phase : (P : Phase → Type 0) (d : Delay) (w : Watcher) → P Leaving → (holds_delay (other_delay d) w ≡ false → P Idle) → P (delay_dropped d w).phase
dropped_phase P d w leaving idle = if_each P (holds_delay (other_delay d) w) Leaving Idle (λ _. leaving) idle

-- whoever has lowered a count has no claim
pub dropped_claim : (d : Delay) (w : Watcher) (c : ℕ) → HasClaim (delay_dropped d w).phase c → ⊥
dropped_claim d w c = dropped_phase (λ (p : Phase). HasClaim p c → ⊥) d w (λ claim. claim) (λ _ claim. claim)

-- ---- what the invariant says of the new record

module _ (counter : ℕ) (WasRetired : ℕ → ℕ → Type 0) (w : Watcher) (h : WatcherInvariant counter WasRetired w) where
  -- watch_load
  pub counter_watched_invariant : WatcherInvariant counter WasRetired (counter_watched counter w)
  counter_watched_invariant = record {
    watched_reached = λ c watched. let same = seen_watched counter w.phase c watched in omega (arith, same);
    holds_as_phase = seen_holds counter w.phase w.holds_even w.holds_odd h.holds_as_phase;
    claim_near = λ c claim. elim (seen_claim counter w.phase c claim) as (λ _. (c ≤ counter) × (counter ≤ c + 1)) [
      | inl now ↦ (omega (arith, now), omega (arith, now))
      | inr before ↦ h.claim_near c before
    ];
    root_claimed = λ g root. subst IsClaimed (sym (seen_still counter w.phase (h.root_claimed g root))) (h.root_claimed g root);
    claim_later = λ n v was c g claim root. h.claim_later n v was c g (subst (λ (p : Phase). HasClaim p c) (seen_still counter w.phase (h.root_claimed g root)) claim) root;
  }

  -- watch_add
  pub delay_added_invariant : (d : Delay) → may_add w.phase d ≡ true → WatcherInvariant counter WasRetired (delay_added d w)
  delay_added_invariant d may = record {
    watched_reached = λ c watched. h.watched_reached c (added_watched w.phase c watched);
    holds_as_phase = added_holds w.phase d w.holds_even w.holds_odd may h.holds_as_phase;
    claim_near = λ c claim. h.claim_near c (added_claim w.phase c claim);
    root_claimed = λ g root. let claimed = h.root_claimed g root in (claimed.0, claim_added w.phase claimed.0 claimed.1);
    claim_later = λ n v was c g claim root. h.claim_later n v was c g (added_claim w.phase c claim) root;
  }

  -- watch_root
  pub root_watched_invariant : (generation : ℕ) → is_claimed w.phase ≡ true → ((n v : ℕ) → WasRetired n v → n ≤ generation) → WatcherInvariant counter WasRetired (root_watched generation w)
  root_watched_invariant generation claimed newest = record {
    watched_reached = h.watched_reached;
    holds_as_phase = h.holds_as_phase;
    claim_near = h.claim_near;
    root_claimed = λ g root. is_claimed_true w.phase claimed;
    claim_later = λ n v was c g claim root reached. let now : generation ≡ g = cc in subst (λ (x : ℕ). n ≤ x) now (newest n v was);
  }

  -- watch_sub
  pub delay_dropped_invariant : (d : Delay) → WatcherInvariant counter WasRetired (delay_dropped d w)
  delay_dropped_invariant d = record {
    watched_reached = λ c watched. absurd (dropped_phase (λ (p : Phase). HasWatched p c → ⊥) d w (λ none. none) (λ _ none. none) watched);
    holds_as_phase = dropped_phase (λ (p : Phase). HoldsIn p (of_delay d false w.holds_even) (of_delay d w.holds_odd false)) d w tt (holds_no_more d w.holds_even w.holds_odd);
    claim_near = λ c claim. absurd (dropped_claim d w c claim);
    root_claimed = λ g root. absurd (cc);
    claim_later = λ n v was c g claim root reached. absurd (dropped_claim d w c claim);
  }
