-- What holds of every state that meets the rule.
-- Source: as Turns: at most two processes at a time.
use Rattle.std.specs.Prelude.{◌≡◌, ℕ, ◌+◌, ◌≤◌, ◌↔◌, List, Some, sum_by, slice_index}
use mathlib.Core.Option.{some}
use lib.ListN.{get_elem?}
use Rattle.atomic_table.specs.Table.{State}
use Rattle.copy_turns.specs.declared.holdings.Holdings.{Holdings}
use Rattle.copy_turns.specs.declared.turn.Turn.{Turn}
use Rattle.copy_turns.specs.declared.turn.TheConstants.{TURNS}
use Rattle.copy_turns.specs.Turns.{turn_place, held_count}
use Rattle.copy_turns.specs.Holdings.{turn_held_in}
use Rattle.copy_turns.specs.Rule.{AreTurns}

-- how many turns a seat holds
abbrev pub held_turns : Holdings → ℕ
held_turns h = held_count h.first + held_count h.second

-- no more than two turns are held
abbrev pub HoldsTwoAtMost : Type 0
HoldsTwoAtMost = (copiers : ℕ) (s : State (Unit {0}) Holdings) → AreTurns copiers s → sum_by held_turns s.views ≤ TURNS

-- one of these seats holds the turn for this process
pub record IsHeldFor (turn : Turn) (process : ℕ) (views : List Holdings) : Type 0 where
  pub place : ℕ
  pub seat : Holdings
  pub at : get_elem? views place ≡ some seat
  pub held : turn_held_in turn seat ≡ Some process

-- a word is the number of a process plus 1 exactly where the turn is held for that process
abbrev pub TellsWhoHolds : Type 0
TellsWhoHolds =
    (copiers : ℕ) (s : State (Unit {0}) Holdings) → AreTurns copiers s → (turn : Turn) (process : ℕ) → (slice_index s.words (turn_place turn) ≡ process + 1) ↔ IsHeldFor turn process s.views
