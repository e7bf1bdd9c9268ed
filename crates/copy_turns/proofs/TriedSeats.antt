-- The seat of a copier that tried a turn, by the word that it found.
use Rattle.std.proofs.Common.{◌≡◌, ◌≢◌, ℕ, ◌+◌, ◌-◌, Bool, cond, List, ◌∷◌, None, Some, sym, ap, ◌∙◌, arith, ne_eqb}
use Rattle.copy_turns.specs.declared.holdings.FoundTurn.{FoundTurn}
use Rattle.copy_turns.specs.declared.holdings.Holdings.{Holdings}
use Rattle.copy_turns.specs.declared.turn.Turn.{Turn}
use Rattle.copy_turns.specs.Turns.{turn_place, turn_at, turn_back}
use Rattle.copy_turns.specs.Holdings.{holdings_of, tried_seat, turn_taken, with_found_turn}
use Rattle.copy_turns.proofs.TurnCases.{found_kept}

-- it tried this turn for this process
same_turn : (turn : Turn) (place process word : ℕ) (old : Holdings) → place ≡ turn_place turn → tried_seat (turn_at place) (process + 1 - 1) word old ≡ tried_seat turn process word old
same_turn turn place process word old is =
    let number : process + 1 - 1 ≡ process = omega arith in
    λ i. tried_seat ((ap turn_at is ∙ turn_back turn) i) (number i) word old

-- where the turn was free, it is the copier's
pub taken_seat : (turn : Turn) (place process word : ℕ) (old new : Holdings) → place ≡ turn_place turn → new ≡ tried_seat (turn_at place) (process + 1 - 1) word old → word ≡ 0 → old ≡ holdings_of None old.found
    → (new ≡ holdings_of (Some (record { turn = turn; process = process })) new.found) × (new.found ≡ record { turn = turn; word = 0 } ∷ old.found)
taken_seat turn place process word old new is tried free idle =
    let found : List FoundTurn = record { turn = turn; word = 0 } ∷ old.found in
    let whole : new ≡ holdings_of (Some (record { turn = turn; process = process })) found = tried ∙ same_turn turn place process word old is ∙ ap (λ (w : ℕ). tried_seat turn process w old) free ∙ ap (tried_seat turn process 0) idle in
    let seen : new.found ≡ found = ap (λ (h : Holdings). h.found) whole ∙ found_kept turn (Some process) (record { first = None; second = None; idle = 0; found = found }) in
    (whole ∙ ap (holdings_of (Some (record { turn = turn; process = process }))) (sym seen), seen)

-- where it was held, it is not
pub busy_seat : (turn : Turn) (place process word : ℕ) (old new : Holdings) → place ≡ turn_place turn → new ≡ tried_seat (turn_at place) (process + 1 - 1) word old → word ≢ 0 → old ≡ holdings_of None old.found
    → (new ≡ holdings_of None new.found) × (new.found ≡ record { turn = turn; word = word } ∷ old.found)
busy_seat turn place process word old new is tried held idle =
    let found : List FoundTurn = record { turn = turn; word = word } ∷ old.found in
    let whole : new ≡ holdings_of None found =
    tried
    ∙ same_turn turn place process word old is
    ∙ ap (λ (b : Bool). cond b (turn_taken turn process (with_found_turn turn word old)) (with_found_turn turn word old)) (ne_eqb word 0 held)
    ∙ ap (with_found_turn turn word) idle in
    let seen : new.found ≡ found = ap (λ (h : Holdings). h.found) whole in
    (whole ∙ ap (holdings_of None) (sym seen), seen)
