-- Watches as turns go by: those that come due look at the process as it is, and the others look later.
use Rattle.std.proofs.Common.{◌≡◌, ◌+◌, ◌-◌, ◌≤◌, ◌<◌, ◌∙◌, ◌&&◌, ℕ, zero, suc, refl, sym, ap, subst, arith, Bool, true, false, List, [], ◌∷◌, ◌++◌, append_assoc, take, drop, nat_le, cond, IfSome, Option, Some, None}
use Rattle.std.proofs.lemmas.Bool.{leb-true, leb-false}
use Rattle.std.proofs.lemmas.List.{take-append-drop}
use Rattle.std.specs.List.{AllByRecursion, list_all}
use Rattle.term_core.proofs.Lists.{all_front, all_behind}
use Rattle.server_core.specs.ServerState.{ServerState}
use Rattle.machine_core.specs.Process.{PlainFrame, PlainProcess, frame_names}
use Rattle.machine_core.specs.Holds.{is_among}
use Rattle.run_log.specs.Legal.{after_turns}
use Rattle.span_check.specs.declared.watch.Watch.{Watch}
use Rattle.span_check.specs.Watches.{AreFrom, AreInOrder, AreLater, AreSeen, AreSeenToEnd, Sees, due_count, first_turn, stands_in}
use Rattle.span_check.proofs.Lists.{all_both}
use Rattle.span_check.proofs.TurnRows.{after_add}
use Rattle.run_log.proofs.ListPlaces.{all_weaker, all_join}

-- watches behind the first are in order, and look no earlier than it
pub order_drop : (n : ℕ) (watches : List Watch) → AreInOrder watches → AreInOrder (drop n watches)
order_drop zero watches h = h
order_drop (suc n) [] h = tt
order_drop (suc n) (watch ∷ watches) h = order_drop n watches h.1

first_low : (watches : List Watch) (turn : ℕ) → IfSome (first_turn watches) (λ t. turn ≤ t) → AreInOrder watches → AreFrom turn watches
first_low [] turn low h = tt
first_low (watch ∷ watches) turn low h = (low, first_low watches turn (lower (first_turn watches) h.0) h.1)
  where
    lower : (o : Option ℕ) → IfSome o (λ t. watch.turn ≤ t) → IfSome o (λ t. turn ≤ t)
    lower None k = tt
    lower (Some t) k = omega (arith, low, k)

-- in order, those that are not due yet look later
abbrev SplitDue : ℕ → List Watch → ℕ → Type 0
SplitDue turns watches n = AllByRecursion (λ watch. watch.turn ≤ turns) (take n watches) × AreLater turns (drop n watches)

later_all : (turns : ℕ) (watch : Watch) (watches : List Watch) → turns < watch.turn → AreInOrder (watch ∷ watches) → AreLater turns (watch ∷ watches)
later_all turns watch watches high h =
    (high, all_weaker (λ w. watch.turn ≤ w.turn) (λ w. turns < w.turn) (λ w k. omega (arith, high, k)) watches (first_low watches watch.turn h.0 h.1))

split_at : (turns : ℕ) (watch : Watch) (watches : List Watch) (b : Bool) → nat_le watch.turn turns ≡ b → AreInOrder (watch ∷ watches) → SplitDue turns watches (due_count turns watches) → SplitDue turns (watch ∷ watches) (cond b (1 + due_count turns watches) 0)
split_at turns watch watches true e h rest =
    let n : 1 + due_count turns watches ≡ suc (due_count turns watches) = omega arith in
    subst (SplitDue turns (watch ∷ watches)) (sym n) ((leb-true watch.turn turns e, rest.0), rest.1)
split_at turns watch watches false e h rest = (tt, later_all turns watch watches (leb-false watch.turn turns e) h)

pub due_split : (turns : ℕ) (watches : List Watch) → AreInOrder watches → SplitDue turns watches (due_count turns watches)
due_split turns [] h = (tt, tt)
due_split turns (watch ∷ watches) h = split_at turns watch watches (nat_le watch.turn turns) refl h (due_split turns watches h.1)

-- each of these watches is seen where the test says so, and not each where it does not
pub each_seen : (P : Watch → Type 0) (test : Watch → Bool) (watches : List Watch) → ((w : Watch) → test w ≡ true → P w) → list_all test watches ≡ true → AllByRecursion P watches
each_seen P test [] f h = tt
each_seen P test (watch ∷ watches) f h = let b = both (test watch) (list_all test watches) h in (f watch b.0, each_seen P test watches f b.1)
  where
    both : (a b : Bool) → (a && b) ≡ true → (a ≡ true) × (b ≡ true)
    both true b h = (refl, h)
    both false b h = absurd (cc)

pub all_tested : (P : Watch → Type 0) (test : Watch → Bool) (watches : List Watch) → AllByRecursion (λ w. P w → test w ≡ true) watches → AllByRecursion P watches → list_all test watches ≡ true
all_tested P test [] f h = refl
all_tested P test (watch ∷ watches) f h = ap (λ b. b && list_all test watches) (f.0 h.0) ∙ all_tested P test watches f.1 h.1

-- whether a process stands in an instance depends on its frames alone
pub stands_same : (p q : PlainProcess) (serial : ℕ) → p.frames ≡ q.frames → stands_in p serial ≡ stands_in q serial
stands_same p q serial e = ap (λ (frames : List PlainFrame). is_among (frame_names frames).frames serial) e

-- a process without frames stands nowhere
pub stands_nowhere : (p : PlainProcess) (serial : ℕ) → p.frames ≡ [] → stands_in p serial ≡ true → ⊥
stands_nowhere p serial e h = differ (sym h ∙ ap (λ (frames : List PlainFrame). is_among (frame_names frames).frames serial) e)
  where
    differ : true ≡ false → ⊥
    differ k = cc

module _ (s : ServerState) (p now : PlainProcess) (turns : ℕ) (reached : after_turns s turns p ≡ now) (counted : now.turns ≡ p.turns + turns) where
  later_is : (k : ℕ) → now.turns ≤ k → after_turns s (k - p.turns) p ≡ after_turns s (k - now.turns) now
  later_is k h =
      let e : k - p.turns ≡ turns + (k - now.turns) = omega (arith, h, counted) in
      ap (λ n. after_turns s n p) e ∙ after_add s turns (k - now.turns) p ∙ ap (after_turns s (k - now.turns)) reached

  -- a watch that looks later is seen from here as it was from there
  pub sees_on : (watch : Watch) → now.turns ≤ watch.turn → Sees s p watch → Sees s now watch
  sees_on watch h seen = record { from = h; stands = ap (λ (q : PlainProcess). stands_in q watch.serial) (sym (later_is watch.turn h)) ∙ seen.stands }

  pub sees_back : (watch : Watch) → Sees s now watch → Sees s p watch
  sees_back watch seen = record { from = omega (arith, seen.from, counted); stands = ap (λ (q : PlainProcess). stands_in q watch.serial) (later_is watch.turn seen.from) ∙ seen.stands }

  pub all_on : (watches : List Watch) → AreLater (p.turns + turns) watches → AllByRecursion (Sees s p) watches → AllByRecursion (Sees s now) watches
  all_on watches later h = all_both (λ w. p.turns + turns < w.turn) (Sees s p) (Sees s now) watches (λ w high seen. sees_on w (omega (arith, high, counted)) seen) later h

  module _ (watches between : List Watch) (seen : AreSeen s p turns watches between) where
    parts_more : (front left : List Watch) → between ≡ front ++ left → watches ≡ (seen.front ++ front) ++ left
    parts_more front left e = seen.parts ∙ ap (λ ws. seen.front ++ ws) e ∙ sym (append_assoc seen.front front left)

    seen_more : (front : List Watch) → AllByRecursion (Sees s now) front → AllByRecursion (Sees s p) (seen.front ++ front)
    seen_more front h = all_join (Sees s p) seen.front front seen.seen (all_weaker (Sees s now) (Sees s p) sees_back front h)

    low_more : (more : ℕ) (front : List Watch) → AllByRecursion (λ w. w.turn ≤ now.turns + more) front → AllByRecursion (λ w. w.turn ≤ p.turns + (turns + more)) (seen.front ++ front)
    low_more more front h =
        all_join (λ w. w.turn ≤ p.turns + (turns + more)) seen.front front
        (all_weaker (λ w. w.turn ≤ p.turns + turns) (λ w. w.turn ≤ p.turns + (turns + more)) (λ w k. omega (arith, k)) seen.front seen.low)
        (all_weaker (λ w. w.turn ≤ now.turns + more) (λ w. w.turn ≤ p.turns + (turns + more)) (λ w k. omega (arith, k, counted)) front h)

    -- watches seen in two rows of turns
    pub seen_on : (more : ℕ) (left : List Watch) → AreSeen s now more between left → AreSeen s p (turns + more) watches left
    seen_on more left next = record {
      front = seen.front ++ next.front;
      parts = parts_more next.front left next.parts;
      seen = seen_more next.front next.seen;
      low = low_more more next.front next.low;
      later = all_weaker (λ w. now.turns + more < w.turn) (λ w. p.turns + (turns + more) < w.turn) (λ w k. omega (arith, k, counted)) left next.later;
    }

    pub seen_to_end : (more : ℕ) (left : List Watch) → AreSeenToEnd s now more between left → AreSeenToEnd s p (turns + more) watches left
    seen_to_end more left next = record {
      front = seen.front ++ next.front;
      parts = parts_more next.front left next.parts;
      seen = seen_more next.front next.seen;
      low = low_more more next.front next.low;
      none = ap (λ (q : PlainProcess). q.frames) (after_add s turns more p ∙ ap (after_turns s more) reached) ∙ next.none;
      from = all_weaker (λ w. now.turns + more ≤ w.turn) (λ w. p.turns + (turns + more) ≤ w.turn) (λ w k. omega (arith, k, counted)) left next.from;
    }

    -- what not all later ones see, not all see
    pub unseen_on : (AllByRecursion (Sees s now) between → ⊥) → AllByRecursion (Sees s p) watches → ⊥
    unseen_on unseen h = unseen (all_on between seen.later (all_behind (Sees s p) seen.front between (subst (AllByRecursion (Sees s p)) seen.parts h)))

    -- the last turn comes, and ends the process: none looks at it
    pub ended_here : (last : PlainProcess) → after_turns s 1 now ≡ last → last.frames ≡ [] → AreSeenToEnd s p (turns + 1) watches between
    ended_here last step none = record {
      front = seen.front;
      parts = seen.parts;
      seen = seen.seen;
      low = all_weaker (λ w. w.turn ≤ p.turns + turns) (λ w. w.turn ≤ p.turns + (turns + 1)) (λ w k. omega (arith, k)) seen.front seen.low;
      none = ap (λ (q : PlainProcess). q.frames) (after_add s turns 1 p ∙ ap (after_turns s 1) reached ∙ step) ∙ none;
      from = all_weaker (λ w. p.turns + turns < w.turn) (λ w. p.turns + (turns + 1) ≤ w.turn) (λ w k. omega (arith, k)) between seen.later;
    }

-- before the first turn no watch is seen
pub none_seen : (s : ServerState) (p : PlainProcess) (watches : List Watch) → AreLater p.turns watches → AreSeen s p 0 watches watches
none_seen s p watches later = record { front = []; parts = refl; seen = tt; low = tt; later = all_weaker (λ w. p.turns < w.turn) (λ w. p.turns + 0 < w.turn) (λ w k. omega (arith, k)) watches later }

-- the watches that come due in turns of which each leaves the frames that the last leaves
module _ (s : ServerState) (p now : PlainProcess) (turns : ℕ) (counted : now.turns ≡ p.turns + turns) (still : (k : ℕ) → 0 < k → k ≤ turns → (after_turns s k p).frames ≡ now.frames) where
  stands_due : (watch : Watch) → p.turns < watch.turn → watch.turn ≤ now.turns → stands_in (after_turns s (watch.turn - p.turns) p) watch.serial ≡ stands_in now watch.serial
  stands_due watch high low = stands_same (after_turns s (watch.turn - p.turns) p) now watch.serial (still (watch.turn - p.turns) (omega (arith, high)) (omega (arith, low, counted)))

  abbrev stands : Watch → Bool
  stands watch = stands_in now watch.serial

  -- each of them is seen where the process stands in each instance now
  pub looked : (watches : List Watch) → AreInOrder watches → AreLater p.turns watches → list_all stands (take (due_count now.turns watches) watches) ≡ true → AreSeen s p turns watches (drop (due_count now.turns watches) watches)
  looked watches order later all =
      let n = due_count now.turns watches in
      let split = due_split now.turns watches order in
      let front = all_front (λ w. p.turns < w.turn) (take n watches) (drop n watches) (subst (AreLater p.turns) (sym (take-append-drop n watches)) later) in
      let tested = each_seen (λ w. stands_in now w.serial ≡ true) stands (take n watches) (λ w k. k) all in
      let placed = all_both (λ w. p.turns < w.turn) (λ w. w.turn ≤ now.turns) (λ w. (p.turns < w.turn) × (w.turn ≤ now.turns)) (take n watches) (λ w a b. (a, b)) front split.0 in
      record {
        front = take n watches;
        parts = sym (take-append-drop n watches);
        seen = all_both (λ w. (p.turns < w.turn) × (w.turn ≤ now.turns)) (λ w. stands_in now w.serial ≡ true) (Sees s p) (take n watches)
            (λ w at yes. record { from = omega (arith, at.0); stands = stands_due w at.0 at.1 ∙ yes }) placed tested;
        low = all_weaker (λ w. w.turn ≤ now.turns) (λ w. w.turn ≤ p.turns + turns) (λ w k. omega (arith, k, counted)) (take n watches) split.0;
        later = all_weaker (λ w. now.turns < w.turn) (λ w. p.turns + turns < w.turn) (λ w k. omega (arith, k, counted)) (drop n watches) split.1;
      }

  -- and not each where it does not
  pub not_looked : (watches : List Watch) → AreInOrder watches → AreLater p.turns watches → list_all stands (take (due_count now.turns watches) watches) ≡ false → AllByRecursion (Sees s p) watches → ⊥
  not_looked watches order later some all =
      let n = due_count now.turns watches in
      let split = due_split now.turns watches order in
      let front = all_front (λ w. p.turns < w.turn) (take n watches) (drop n watches) (subst (AreLater p.turns) (sym (take-append-drop n watches)) later) in
      let these = all_front (Sees s p) (take n watches) (drop n watches) (subst (AllByRecursion (Sees s p)) (sym (take-append-drop n watches)) all) in
      let implied = all_both (λ w. p.turns < w.turn) (λ w. w.turn ≤ now.turns) (λ w. Sees s p w → stands w ≡ true) (take n watches) (λ w a b seen. sym (stands_due w a b) ∙ seen.stands) front split.0 in
      differ (sym (all_tested (Sees s p) stands (take n watches) implied these) ∙ some)
    where
      differ : true ≡ false → ⊥
      differ k = cc
