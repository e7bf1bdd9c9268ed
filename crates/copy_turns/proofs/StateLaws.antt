-- The laws on states that meet the rule.
use Rattle.std.proofs.Common.{◌≡◌, ℕ, zero, suc, ◌+◌, ◌≤◌, List, [], ◌∷◌, set, sum_by, refl, sym, ap, ◌∙◌, arith}
use Rattle.std.proofs.lemmas.List.Sums.{sum_by-cons}
use mathlib.Core.Logic.{dite}
use native.Mathlib.Decide.{ℕ_discrete}
use Rattle.copy_turns.specs.declared.holdings.Holdings.{Holdings}
use Rattle.copy_turns.specs.declared.turn.Turn.{Turn}
use Rattle.copy_turns.specs.declared.turn.Turn.TheVariants.{First, Second}
use Rattle.copy_turns.specs.Turns.{turn_word, held_count}
use Rattle.copy_turns.specs.Holdings.{turn_held_in, holdings_spent}
use Rattle.copy_turns.specs.Laws.{HoldsTwoAtMost, IsHeldFor, TellsWhoHolds}
use Rattle.copy_turns.proofs.Steps.{count_in, word_in}
use Rattle.copy_turns.proofs.Sums.{sum_both, sum_set, zero_by}
use Rattle.copy_turns.proofs.TurnCases.{count_by_word, process_by_word, spent_holds_nothing, word_by_count}

pub two_at_most : HoldsTwoAtMost
two_at_most copiers s r =
    let first = r.one First in
    let second = r.one Second in
    let both = sum_both (count_in First) (count_in Second) s.views in
    omega arith

-- of a sum that no two have a part of, someone has the whole
holder_there : (turn : Turn) (process : ℕ) (views : List Holdings) → sum_by (count_in turn) views ≤ 1 → sum_by (word_in turn) views ≡ process + 1 → IsHeldFor turn process views
holder_there turn process [] few whole = absurd (omega arith)
holder_there turn process (h ∷ views) few whole =
    let counts = sum_by-cons (count_in turn) h views in
    let words = sum_by-cons (word_in turn) h views in
    let own = count_by_word (turn_held_in turn h) in
    dite (ℕ_discrete (count_in turn h) 0)
    (λ none.
    let no_word = word_by_count (turn_held_in turn h) none in
    let rest = holder_there turn process views (omega arith) (omega arith) in
    record { place = suc rest.place; seat = rest.seat; at = rest.at; held = rest.held })
    (λ some_held.
    let nobody : sum_by (count_in turn) views ≡ 0 = omega arith in
    let nothing = zero_by (word_in turn) (count_in turn) (λ u none. word_by_count (turn_held_in turn u) none) views nobody in
    record { place = zero; seat = h; at = refl; held = process_by_word (turn_held_in turn h) process (omega arith) })

-- who holds a turn makes its word
word_there : (turn : Turn) (process : ℕ) (views : List Holdings) → sum_by (count_in turn) views ≤ 1 → IsHeldFor turn process views → sum_by (word_in turn) views ≡ process + 1
word_there turn process views few is =
    let counts = sum_set (count_in turn) views is.place is.seat holdings_spent is.at in
    let words = sum_set (word_in turn) views is.place is.seat holdings_spent is.at in
    let count_own : count_in turn is.seat ≡ 1 = ap held_count is.held in
    let word_own : word_in turn is.seat ≡ process + 1 = ap turn_word is.held in
    let count_none : count_in turn holdings_spent ≡ 0 = ap held_count (spent_holds_nothing turn) in
    let word_none : word_in turn holdings_spent ≡ 0 = ap turn_word (spent_holds_nothing turn) in
    let nobody : sum_by (count_in turn) (set views is.place holdings_spent) ≡ 0 = omega arith in
    let nothing = zero_by (word_in turn) (count_in turn) (λ u none. word_by_count (turn_held_in turn u) none) (set views is.place holdings_spent) nobody in
    omega arith

pub tells_who_holds : TellsWhoHolds
tells_who_holds copiers s r turn process = ((λ word. holder_there turn process s.views (r.one turn) (sym (r.told turn) ∙ word)), (λ held. r.told turn ∙ word_there turn process s.views (r.one turn) held))
