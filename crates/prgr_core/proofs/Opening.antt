-- The state in which a list of events begins is sound.
use Rattle.std.proofs.Common.{length-append, ◌≡◌, ℕ, ◌<◌, ◌≤◌, zero, suc, List, [], length, Some, None, refl, sym, ◌∙◌, ap, subst, Bool, false, cond, ◌∷◌, arith, inl, inr}
use Rattle.std.proofs.lemmas.List.Sums.{sum_by-append}
use Rattle.std.specs.Prelude.{slice_get}
use Rattle.prgr_core.specs.declared.member.TheConstants.{MOST_MEMBERS}
use Rattle.prgr_core.specs.declared.watcher.TheConstants.{MOST_WATCHERS}
use Rattle.prgr_core.specs.declared.member.Member.{Member}
use Rattle.prgr_core.specs.declared.member.Retirement.{Retirement}
use Rattle.prgr_core.specs.declared.watcher.Watcher.{Watcher}
use Rattle.prgr_core.specs.declared.watcher.Delay.{Delay}
use Rattle.prgr_core.specs.declared.watcher.Delay.TheVariants.{Even, Odd}
use Rattle.prgr_core.specs.Watchers.{of_delay, holds_delay, holders}
use Rattle.prgr_core.specs.Machine.{machine_of}
use Rattle.prgr_core.specs.Invariant.{WordFits, WordIsNear, LoadedIsNear, ScannedIsDone, ScannedHasCounter, LeadsAsLeader, LeaderLeads, LeaderIsAwake, LeaderKnows, ClaimHoldsBack, WatcherInvariant}
use Rattle.prgr_core.specs.Step.{IsSound, opening_member, opening_members, opening_watcher, opening_watchers, progress_opening}
use Rattle.prgr_core.proofs.Parts.{slice_get-push_at}

length-opening : (n : ℕ) → length (opening_members n) ≡ n
length-opening zero = refl
length-opening (suc n) = simp length-append (omega (arith, length-opening n))

no_element : (k : ℕ) {r : Retirement} → slice_get [] k ≡ Some r → ⊥
no_element k e = (cc)

opening_at : (n k : ℕ) (a : Member) → slice_get (opening_members n) k ≡ Some a → (a ≡ opening_member k) × (k < n)
opening_at zero k a e = absurd (cc)
opening_at (suc n) k a e =
    elim (slice_get-push_at (opening_members n) (opening_member n) k a e) as (λ _. (a ≡ opening_member k) × (k < suc n)) [
      | inl before ↦ let old = opening_at n k a before in (old.0, omega (arith, old.1))
      | inr last ↦ let len = length-opening n in let same : k ≡ n = omega (arith, last.0, len) in (last.1 ∙ ap opening_member (sym same), omega (arith, same))
    ]

length-opening_watchers : (n : ℕ) → length (opening_watchers n) ≡ n
length-opening_watchers zero = refl
length-opening_watchers (suc n) = simp length-append (omega (arith, length-opening_watchers n))

watcher_at : (n k : ℕ) (w : Watcher) → slice_get (opening_watchers n) k ≡ Some w → w ≡ opening_watcher k
watcher_at zero k w e = absurd (cc)
watcher_at (suc n) k w e =
    elim (slice_get-push_at (opening_watchers n) (opening_watcher n) k w e) as (λ _. w ≡ opening_watcher k) [
      | inl before ↦ watcher_at n k w before
      | inr last ↦ let len = length-opening_watchers n in let same : k ≡ n = omega (arith, last.0, len) in last.1 ∙ ap opening_watcher (sym same)
    ]

holds_none : (delay : Delay) (k : ℕ) → holds_delay delay (opening_watcher k) ≡ false
holds_none Even k = refl
holds_none Odd k = refl

-- none of them holds a count
no_holders : (delay : Delay) (n : ℕ) → holders delay (opening_watchers n) ≡ 0
no_holders delay zero = refl
no_holders delay (suc n) =
    let one : ◌≡◌ {A = ℕ} (cond (holds_delay delay (opening_watcher n)) 1 0) 0 = ap (λ (b : Bool). cond b 1 0) (holds_none delay n) in
    let parts = sum_by-append (λ w. cond (holds_delay delay w) 1 0) (opening_watchers n) (opening_watcher n ∷ []) in
    let before = no_holders delay n in
    omega (arith, parts, before, one)

opening_counts : (delay : Delay) → ◌≡◌ {A = ℕ} (of_delay delay 0 0) 0
opening_counts Even = refl
opening_counts Odd = refl

opening_watcher_invariant : (k : ℕ) (WasRetired : ℕ → ℕ → Type 0) → WatcherInvariant 1 WasRetired (opening_watcher k)
opening_watcher_invariant k WasRetired = record {
  watched_reached = λ c none. absurd none;
  holds_as_phase = (refl, refl);
  claim_near = λ c none. absurd none;
  root_claimed = λ g none. absurd (cc);
  claim_later = λ n v was c g none. absurd none;
}

-- the opening state is sound
pub opening_sound : (n w : ℕ) → n ≤ MOST_MEMBERS → w ≤ MOST_WATCHERS → IsSound (progress_opening n w)
opening_sound n w few few_watchers =
    let each : (a : Member) → slice_get (opening_members n) a.number ≡ Some a → a ≡ opening_member a.number = λ a is. (opening_at n a.number a is).0 in
    let by : (P : Member → Type 0) → ((k : ℕ) → P (opening_member k)) → (a : Member) → slice_get (opening_members n) a.number ≡ Some a → P a = λ P all a is. subst P (sym (each a is)) (all a.number) in
    record {
      invariant = record {
        counter_in_range = (omega arith, omega arith);
        words_fit = by WordFits (λ k. omega arith);
        words_near = by (WordIsNear 1) (λ k value. (omega arith, omega arith));
        loads_near = by (LoadedIsNear 1) (λ k c none. absurd none);
        scanned_done = λ x y is_x is_y. by (λ x. ScannedIsDone 1 x y) (λ k none. absurd none) x is_x;
        scanned_counter = λ x y is_x is_y. by (λ x. ScannedHasCounter 1 x y) (λ k none. absurd none) x is_x;
        leads_as_leader = by (LeadsAsLeader None) (λ k none. absurd none);
        leader_leads = by (LeaderLeads None) (λ k none. absurd (cc));
        leader_awake = by LeaderIsAwake (λ k none. absurd none);
        leader_knows = by (LeaderKnows 1) (λ k c none. absurd none);
        needs_near = λ n v was. absurd (no_element was.0 was.1);
        confirmed_later = λ a is n v was. absurd (no_element was.0 was.1);
        loaded_later = λ a is n v was. absurd (no_element was.0 was.1);
        delays_counted = λ delay. opening_counts delay ∙ sym (no_holders delay w);
        claims_hold_back = λ x y is_x is_y. by (λ z. ClaimHoldsBack 1 z y) (λ k none. absurd none) x is_x;
        each_watcher = λ x is. subst (WatcherInvariant 1 (machine_of (progress_opening n w)).WasRetired) (sym (watcher_at w is.0 x is.1)) (opening_watcher_invariant is.0 (machine_of (progress_opening n w)).WasRetired);
      };
      numbered = λ k a is. let old = opening_at n k a is in ap (λ (x : Member). x.number) old.0;
      few = omega (arith, length-opening n, few);
      watchers_numbered = λ k x is. ap (λ (y : Watcher). y.number) (watcher_at w k x is);
      watchers_few = omega (arith, length-opening_watchers w, few_watchers);
    }

-- the same with its parts as the code makes them
pub opened_sound : (n w : ℕ) → n ≤ MOST_MEMBERS → w ≤ MOST_WATCHERS → (members : List Member) (watchers : List Watcher) (needs : List (ℕ × ℕ)) (retired : List Retirement) → members ≡ opening_members n → watchers ≡ opening_watchers w → needs ≡ [] → retired ≡ [] → IsSound (record { counter = 1; generation = 0; leader = None; members = members; delay_even = 0; delay_odd = 0; watchers = watchers; needs = needs; retired = retired })
opened_sound n w few few_watchers members watchers needs retired a b c d = rw (a, b, c, d) (opening_sound n w few few_watchers)
