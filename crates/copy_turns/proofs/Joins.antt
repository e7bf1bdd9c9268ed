-- Seats are handed out and come in, which keeps the rule.
use Rattle.std.proofs.Common.{◌≡◌, ◌≢◌, ℕ, ◌+◌, ◌-◌, ◌<◌, ◌≤◌, [], ◌∷◌, ◌++◌, set, sum_by, refl, sym, ap, ◌∙◌, ⊎_elim, arith}
use mathlib.Core.Option.{some}
use lib.ListN.{get_elem?}
use Rattle.std.proofs.lemmas.List.Sums.{sum_by_push}
use Rattle.atomic_table.specs.Table.{Splits, Joins}
use Rattle.atomic_table.proofs.Lists.{at_set}
use Rattle.copy_turns.specs.declared.holdings.Holdings.{Holdings}
use Rattle.copy_turns.specs.declared.turn.Turn.{Turn}
use Rattle.copy_turns.specs.Turns.{turn_word, held_count}
use Rattle.copy_turns.specs.Holdings.{turn_held_in, copiers_in, copiers_left, copier_given, holdings_joined, holdings_spent}
use Rattle.copy_turns.specs.Rule.{AreTurns}
use Rattle.copy_turns.proofs.Steps.{count_in, word_in}
use Rattle.copy_turns.proofs.Sums.{sum_set, two_of_sum}
use Rattle.copy_turns.proofs.TurnCases.{held_same, joined_in, joined_copiers, joined_count, joined_word, spent_holds_nothing, given_holds_nothing}

-- a copier that holds nothing may be given away by a seat that stands for one
pub hand_out_is_allowed : (copiers id : ℕ) (h : Holdings) → 0 < h.idle → Splits (AreTurns copiers) id h (copiers_left h) (copier_given h)
hand_out_is_allowed copiers id h idle s r at =
    let stays : (f : Holdings → ℕ) → f (copiers_left h) ≡ f h → f (copier_given h) ≡ 0 → sum_by f (set s.views id (copiers_left h) ++ copier_given h ∷ []) ≡ sum_by f s.views =
    λ f same none.
    let changed = sum_set f s.views id h (copiers_left h) at in
    let more = sum_by_push f (set s.views id (copiers_left h)) (copier_given h) in
    omega arith in
    record {
      words = r.words;
      one = λ turn.
          let few = r.one turn in
          let same = stays (count_in turn) (ap held_count (held_same turn h (h.idle - 1) h.found)) (ap held_count (given_holds_nothing turn)) in
          omega arith;
      told = λ turn. r.told turn ∙ sym (stays (word_in turn) (ap turn_word (held_same turn h (h.idle - 1) h.found)) (ap turn_word (given_holds_nothing turn)));
      narrow = r.narrow;
      counted =
          let changed = sum_set copiers_in s.views id h (copiers_left h) at in
          let more = sum_by_push copiers_in (set s.views id (copiers_left h)) (copier_given h) in
          let all = r.counted in
          omega arith;
    }

-- a seat may come in to another one
pub take_in_is_allowed : (copiers id : ℕ) (h : Holdings) (place : ℕ) (u : Holdings) → Joins (AreTurns copiers) id h place u (holdings_joined h u) holdings_spent
take_in_is_allowed copiers id h place u s r at apart at' =
    let both = holdings_joined h u in
    let now = set s.views id both in
    let there : get_elem? s.views place ≡ some u = ⊎_elim (λ (x : (place ≡ id) × (both ≡ u)). absurd (apart x.0)) (λ (x : (place ≢ id) × (get_elem? s.views place ≡ some u)). x.1) (at_set s.views id place both u at') in
    let few : (turn : Turn) → count_in turn u + count_in turn h ≤ 1 = λ turn.
    let two = two_of_sum (count_in turn) s.views id place h u holdings_spent (ap held_count (spent_holds_nothing turn)) at there apart in
    let one = r.one turn in
    omega arith in
    let counts : (turn : Turn) → count_in turn both ≡ count_in turn u + count_in turn h = λ turn. ap held_count (joined_in turn h u) ∙ joined_count (turn_held_in turn u) (turn_held_in turn h) (few turn) in
    let stays : (f : Holdings → ℕ) → f both ≡ f u + f h → f holdings_spent ≡ 0 → sum_by f (set now place holdings_spent) ≡ sum_by f s.views = λ f whole none.
    let first = sum_set f s.views id h both at in
    let second = sum_set f now place u holdings_spent at' in
    omega arith in
    record {
      words = r.words;
      one = λ turn.
          let one = r.one turn in
          let same = stays (count_in turn) (counts turn) (ap held_count (spent_holds_nothing turn)) in
          omega arith;
      told = λ turn. r.told turn ∙ sym (stays (word_in turn) (ap turn_word (joined_in turn h u) ∙ joined_word (turn_held_in turn u) (turn_held_in turn h) (few turn)) (ap turn_word (spent_holds_nothing turn)));
      narrow = r.narrow;
      counted = stays copiers_in (let all = joined_copiers h u in omega arith) refl ∙ r.counted;
    }
