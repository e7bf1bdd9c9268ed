-- What each step on the turns tells the seat that makes it.
use Rattle.std.specs.Prelude.{◌≡◌, ℕ, ◌-◌, ◌≤◌}
use Rattle.atomic_table.specs.Table.{Me, Step}
use Rattle.copy_turns.specs.declared.holdings.Holdings.{Holdings}
use Rattle.copy_turns.specs.declared.turn.TheConstants.{PROCESS_LIMIT}
use Rattle.copy_turns.specs.Turns.{turn_at, turn_word}
use Rattle.copy_turns.specs.Holdings.{turn_held_in, tried_seat, turn_given}

-- a seat, with what it holds
abbrev pub SeatHoldings : Type 0
SeatHoldings = Me (Unit {0}) Holdings

-- a turn is tried for a process, whose number plus 1 is to be its word
pub record TriesTurn (made : Step (Unit {0})) (old : SeatHoldings) (found : ℕ) (new : SeatHoldings) : Type 0 where
  pub tried : new ≡ (tried_seat (turn_at made.word) (made.second - 1) found old.0, old.1)
  pub narrow : found ≤ PROCESS_LIMIT

-- a turn is given back
abbrev pub GivesTurn : Step (Unit {0}) → SeatHoldings → ℕ → SeatHoldings → Type 0
GivesTurn made old stored new = new ≡ (turn_given (turn_at made.word) old.0, old.1)

-- a load by the seat that stands for all copiers tells what it holds itself
pub record TellsHolder (made : Step (Unit {0})) (old : SeatHoldings) (found : ℕ) (new : SeatHoldings) : Type 0 where
  pub same : new ≡ old
  pub whole : found ≡ turn_word (turn_held_in (turn_at made.word) old.0)
