-- The turns of a process by their places: those before a generation, those under it and those after it.
use Rattle.std.proofs.Common.{◌≡◌, ◌≤◌, ◌<◌, ◌+◌, ◌∙◌, ◌==◌, ℕ, zero, suc, refl, sym, ap, subst, arith, Bool, true, false, List, [], ◌∷◌, ◌++◌, append_assoc, length, slice_get, Some, IfSome}
use Rattle.std.proofs.lemmas.Bool.{eqb-true, eqb-false}
use Rattle.std.proofs.lemmas.Option.{none-some, slice_get_within}
use Rattle.std.specs.List.{AllByRecursion}
use Rattle.server_core.specs.ServerState.{ServerState}
use Rattle.machine_core.specs.Process.{PlainProcess}
use Rattle.machine_core.specs.Turn.{turn_of}
use Rattle.run_log.specs.declared.logs.Span.{Span}
use Rattle.run_log.specs.Legal.{Lingers, Mark, after_turns, marks_in, marks_of, process_after}
use Rattle.run_log.proofs.Marks.{last_of, last_process, later_of, process_of_last}
use Rattle.script_core.proofs.JoinedPlaces.{get_behind, get_front, JoinedAt, in_front, behind, joined_at}
use Rattle.span_check.specs.Watches.{stands_in}
use Rattle.span_check.specs.Sweeps.{turns_in}
use Rattle.span_check.proofs.Lists.{all_if_there}
use Rattle.span_check.proofs.Repeats.{no_turn}
use Rattle.span_check.proofs.TurnRows.{after_add}
use Rattle.run_log.proofs.ListPlaces.{get_within, all_at, all_weaker, all_join}

-- ---- a process that lingers, by where its turn stands among the others

-- the turn is the last one before the generation, or one under it
pub data LingersAt (serial turn : ℕ) (earlier under : List Mark) : Type 0 where
  at_start : (m : Mark) (place : ℕ) → turn ≡ place + 1 → place + 1 ≡ length earlier → slice_get earlier place ≡ Some m → stands_in m.process serial ≡ true → LingersAt serial turn earlier under
  at_turn : (m : Mark) (place : ℕ) → turn ≡ length earlier + place + 1 → slice_get under place ≡ Some m → stands_in m.process serial ≡ true → LingersAt serial turn earlier under

module _ (g : ℕ) (earlier under after : List Mark) (low : AllByRecursion (λ m. m.generation < g) earlier) (here : AllByRecursion (λ m. m.generation ≡ g) under) (high : AllByRecursion (λ m. g < m.generation) after) where
  abbrev all : List Mark
  all = earlier ++ (under ++ after)

  next_is : (turns : List Mark) (place : ℕ) (m : Mark) → slice_get turns place ≡ Some m → IfSome (slice_get turns place) (λ n. g ≤ n.generation) → g ≤ m.generation
  next_is turns place m e h = subst (λ o. IfSome o (λ n. g ≤ n.generation)) e h

  last_before : (serial turn : ℕ) (h : Lingers serial g turn all) → slice_get earlier h.place ≡ Some h.mark → h.place < length earlier → (b : Bool) → (h.place + 1 == length earlier) ≡ b → LingersAt serial turn earlier under
  last_before serial turn h e within true is = at_start h.mark h.place h.counted (eqb-true (h.place + 1) (length earlier) is) e h.stands
  last_before serial turn h e within false is =
      let other = eqb-false (h.place + 1) (length earlier) is in
      let m = get_within earlier (h.place + 1) (omega (arith, within, other)) in
      let old = all_at (λ n. n.generation < g) earlier (h.place + 1) m.0 low m.1 in
      let new = next_is all (h.place + 1) m.0 (get_front earlier (under ++ after) (h.place + 1) m.0 m.1) h.later in
      absurd (omega (arith, old, new))

  behind_start : (serial turn : ℕ) (h : Lingers serial g turn all) (n : ℕ) → h.place ≡ length earlier + n → JoinedAt under after n h.mark → LingersAt serial turn earlier under
  behind_start serial turn h n e (in_front k) = at_turn h.mark n (omega (arith, h.counted, e)) k h.stands
  behind_start serial turn h n e (behind k f at) = let past = all_at (λ m. g < m.generation) after k h.mark high at in absurd (omega (arith, past, h.seen))

  placed : (serial turn : ℕ) (h : Lingers serial g turn all) → JoinedAt earlier (under ++ after) h.place h.mark → LingersAt serial turn earlier under
  placed serial turn h (in_front e) = last_before serial turn h e (slice_get_within earlier h.place h.mark e) (h.place + 1 == length earlier) refl
  placed serial turn h (behind n e at) = behind_start serial turn h n e (joined_at under after n h.mark at)

  pub lingers_at : (serial turn : ℕ) → Lingers serial g turn all → LingersAt serial turn earlier under
  lingers_at serial turn h = placed serial turn h (joined_at earlier (under ++ after) h.place h.mark h.had)

  late : AllByRecursion (λ m. g ≤ m.generation) (under ++ after)
  late =
      all_join (λ m. g ≤ m.generation) under after (all_weaker (λ m. m.generation ≡ g) (λ m. g ≤ m.generation) (λ m h. omega (arith, h)) under here)
      (all_weaker (λ m. g < m.generation) (λ m. g ≤ m.generation) (λ m h. omega (arith, h)) after high)

  next_late : (place n : ℕ) → place ≡ length earlier + n → IfSome (slice_get all place) (λ m. g ≤ m.generation)
  next_late place n e = subst (λ o. IfSome o (λ m. g ≤ m.generation)) (sym (ap (slice_get all) e ∙ get_behind earlier (under ++ after) n)) (all_if_there (λ m. g ≤ m.generation) (under ++ after) n late)

  pub at_lingers : (serial turn : ℕ) → LingersAt serial turn earlier under → Lingers serial g turn all
  at_lingers serial turn (at_start m place counted last had stands) =
      let old = all_at (λ n. n.generation < g) earlier place m low had in
      record {
        place = place;
        mark = m;
        counted = counted;
        had = get_front earlier (under ++ after) place m had;
        seen = omega (arith, old);
        stands = stands;
        later = next_late (place + 1) 0 (omega (arith, last));
      }
  at_lingers serial turn (at_turn m place counted had stands) =
      let same = all_at (λ n. n.generation ≡ g) under place m here had in
      record {
        place = length earlier + place;
        mark = m;
        counted = counted;
        had = get_behind earlier (under ++ after) place ∙ get_front under after place m had;
        seen = omega (arith, same);
        stands = stands;
        later = next_late (length earlier + place + 1) (place + 1) (omega arith);
      }

-- ---- the turns of spans

-- the marks of spans in two parts
pub marks_join : (states : ℕ → ServerState) (p : PlainProcess) (xs ys : List Span) → marks_of states p (xs ++ ys) ≡ marks_of states p xs ++ marks_of states (process_after states p xs) ys
marks_join states p [] ys = refl
marks_join states p (x ∷ xs) ys =
    let q = after_turns (states x.generation) x.turns p in
    let here = marks_in (states x.generation) x.generation x.turns p in
    ap (λ ms. here ++ ms) (marks_join states q xs ys) ∙ sym (append_assoc here (marks_of states q xs) (marks_of states (process_after states q xs) ys))

pub process_join : (states : ℕ → ServerState) (p : PlainProcess) (xs ys : List Span) → process_after states p (xs ++ ys) ≡ process_after states (process_after states p xs) ys
process_join states p [] ys = refl
process_join states p (x ∷ xs) ys = process_join states (after_turns (states x.generation) x.turns p) xs ys

marks_none : (s : ServerState) (g : ℕ) (p : PlainProcess) → marks_in s g 0 p ≡ []
unfolding marks_in
marks_none s g p = refl

marks_add : (s : ServerState) (g a b : ℕ) (p : PlainProcess) → marks_in s g (a + b) p ≡ marks_in s g a p ++ marks_in s g b (after_turns s a p)
unfolding marks_in after_turns
marks_add s g zero b p = let e : zero + b ≡ b = omega arith in ap (λ n. marks_in s g n p) e
marks_add s g (suc a) b p =
    let e : suc a + b ≡ suc (a + b) = omega arith in
    ap (λ n. marks_in s g n p) e ∙ ap (λ ms. record { generation = g; process = (turn_of s p).process } ∷ ms) (marks_add s g a b (turn_of s p).process)

-- spans of one generation have the marks of their turns in a row
pub marks_under : (s : ServerState) (states : ℕ → ServerState) (g : ℕ) (p : PlainProcess) (xs : List Span) → states g ≡ s → AllByRecursion (λ x. x.generation ≡ g) xs → marks_of states p xs ≡ marks_in s g (turns_in xs) p
marks_under s states g p [] here under = sym (marks_none s g p)
marks_under s states g p (x ∷ xs) here under =
    let same : states x.generation ≡ s = ap states under.0 ∙ here in
    (λ i. marks_in (same i) (under.0 i) x.turns p ++ marks_of states (after_turns (same i) x.turns p) xs)
    ∙ ap (λ ms. marks_in s g x.turns p ++ ms) (marks_under s states g (after_turns s x.turns p) xs here under.1)
    ∙ sym (marks_add s g x.turns (turns_in xs) p)

pub process_under : (s : ServerState) (states : ℕ → ServerState) (g : ℕ) (p : PlainProcess) (xs : List Span) → states g ≡ s → AllByRecursion (λ x. x.generation ≡ g) xs → process_after states p xs ≡ after_turns s (turns_in xs) p
process_under s states g p [] here under = sym (no_turn s p)
process_under s states g p (x ∷ xs) here under =
    let same : states x.generation ≡ s = ap states under.0 ∙ here in
    ap (λ z. process_after states (after_turns z x.turns p) xs) same
    ∙ process_under s states g (after_turns s x.turns p) xs here under.1
    ∙ sym (after_add s x.turns (turns_in xs) p)

pub marks_length : (s : ServerState) (g n : ℕ) (p : PlainProcess) → length (marks_in s g n p) ≡ n
unfolding marks_in
marks_length s g zero p = refl
marks_length s g (suc n) p = ap suc (marks_length s g n (turn_of s p).process)

-- the mark of a turn in a row
pub mark_at : (s : ServerState) (g n : ℕ) (p : PlainProcess) (k : ℕ) → k < n → slice_get (marks_in s g n p) k ≡ Some (record { generation = g; process = after_turns s (suc k) p })
unfolding marks_in after_turns
mark_at s g zero p k h = absurd (omega (arith, h))
mark_at s g (suc n) p zero h = refl
mark_at s g (suc n) p (suc k) h = mark_at s g n (turn_of s p).process k (omega (arith, h))

-- what holds of the generation of each span holds of that of each of their turns
all_in : (P : ℕ → Type 0) (s : ServerState) (g n : ℕ) (p : PlainProcess) → P g → AllByRecursion (λ m. P m.generation) (marks_in s g n p)
unfolding marks_in
all_in P s g zero p h = tt
all_in P s g (suc n) p h = (h, all_in P s g n (turn_of s p).process h)

pub marks_all : (P : ℕ → Type 0) (states : ℕ → ServerState) (p : PlainProcess) (spans : List Span) → AllByRecursion (λ span. P span.generation) spans → AllByRecursion (λ m. P m.generation) (marks_of states p spans)
marks_all P states p [] h = tt
marks_all P states p (x ∷ xs) h =
    let q = after_turns (states x.generation) x.turns p in
    all_join (λ m. P m.generation) (marks_in (states x.generation) x.generation x.turns p) (marks_of states q xs) (all_in P (states x.generation) x.generation x.turns p h.0) (marks_all P states q xs h.1)

-- the mark at the last place is the last
last_at : (m : Mark) (marks : List Mark) (place : ℕ) → slice_get marks place ≡ Some m → place + 1 ≡ length marks → last_of marks ≡ Some m
last_at m [] place had last = absurd (none-some m had)
last_at m (x ∷ []) zero had last = had
last_at m (x ∷ []) (suc place) had last = absurd (none-some m had)
last_at m (x ∷ y ∷ marks) zero had last = absurd (omega (arith, last))
last_at m (x ∷ y ∷ marks) (suc place) had last = ap (later_of (Some x)) (last_at m (y ∷ marks) place had (omega (arith, last)))

-- and has the process after the spans
pub last_stands : (states : ℕ → ServerState) (p : PlainProcess) (spans : List Span) (m : Mark) (place : ℕ) → slice_get (marks_of states p spans) place ≡ Some m → place + 1 ≡ length (marks_of states p spans) → m.process ≡ process_after states p spans
last_stands states p spans m place had last = sym (ap (process_of_last p) (last_at m (marks_of states p spans) place had last)) ∙ last_process states p spans
