-- The rule of the turns, which holds between any two atomic steps.
-- Source: as Turns. The bound is a fact of two words here; Erlang/OTP keeps a queue of the processes that wait.
use Rattle.std.specs.Prelude.{◌≡◌, ℕ, ◌≤◌, length, sum_by, slice_index}
use Rattle.atomic_table.specs.Table.{State}
use Rattle.copy_turns.specs.declared.holdings.Holdings.{Holdings}
use Rattle.copy_turns.specs.declared.turn.Turn.{Turn}
use Rattle.copy_turns.specs.declared.turn.TheConstants.{PROCESS_LIMIT, TURNS}
use Rattle.copy_turns.specs.Turns.{turn_place, turn_word, held_count}
use Rattle.copy_turns.specs.Holdings.{turn_held_in, copiers_in}

-- the words of turns that so many copiers take
pub record AreTurns (copiers : ℕ) (s : State (Unit {0}) Holdings) : Type 0 where
  -- a word for each turn
  pub words : length s.words ≡ TURNS
  -- no two seats hold one turn
  pub one : (turn : Turn) → sum_by (λ h. held_count (turn_held_in turn h)) s.views ≤ 1
  -- so its word, which adds up what all seats say of it, is what its holder says, and 0 where there is none
  pub told : (turn : Turn) → slice_index s.words (turn_place turn) ≡ sum_by (λ h. turn_word (turn_held_in turn h)) s.views
  -- it tells of a process
  pub narrow : (turn : Turn) → slice_index s.words (turn_place turn) ≤ PROCESS_LIMIT
  -- all seats together stand for all copiers
  pub counted : sum_by copiers_in s.views ≡ copiers
