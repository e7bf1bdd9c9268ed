-- What a seat at the turns holds. Seats are tokens: the code stores of this only which turn a copier holds.
-- Source: as Turns.
use Rattle.std.specs.Prelude.{ℕ, ◌+◌, ◌-◌, ◌==◌, List, [], ◌∷◌, ◌++◌, Option, None, Some, if◌then◌else◌}
use Rattle.copy_turns.specs.declared.holdings.FoundTurn.{FoundTurn}
use Rattle.copy_turns.specs.declared.holdings.Holdings.{Holdings}
use Rattle.copy_turns.specs.declared.turn.Holding.{Holding}
use Rattle.copy_turns.specs.declared.turn.Turn.{Turn}
use Rattle.copy_turns.specs.declared.turn.Turn.TheVariants.{First, Second}
use Rattle.copy_turns.specs.Turns.{held_count}

-- the process for which a seat holds a turn
abbrev pub turn_held_in : Turn → Holdings → Option ℕ
turn_held_in First h = h.first
turn_held_in Second h = h.second

-- a seat that holds this turn so, and all else as it was
abbrev pub with_held : Turn → Option ℕ → Holdings → Holdings
with_held First held h = record h { first = held }
with_held Second held h = record h { second = held }

-- for how many copiers a seat stands: those that hold nothing, and one for each turn that it holds
abbrev pub copiers_in : Holdings → ℕ
copiers_in h = h.idle + held_count h.first + held_count h.second

-- a seat that holds nothing, for so many copiers
abbrev pub idle_copiers : ℕ → Holdings
idle_copiers copiers = record { first = None; second = None; idle = copiers; found = [] }

-- the first seat, once it gave one copier away
abbrev pub copiers_left : Holdings → Holdings
copiers_left h = record h { idle = h.idle - 1 }

-- which is that copier's
abbrev pub copier_given : Holdings → Holdings
copier_given h = idle_copiers 1

-- the seat of one copier, by the turn that it holds
abbrev pub holdings_of : Option Holding → List FoundTurn → Holdings
holdings_of None found = record { first = None; second = None; idle = 1; found = found }
holdings_of (Some held) found = with_held held.turn (Some held.process) (record { first = None; second = None; idle = 0; found = found })

-- a seat that has found this word of a turn
abbrev pub with_found_turn : Turn → ℕ → Holdings → Holdings
with_found_turn turn word h = record h { found = record { turn = turn; word = word } ∷ h.found }

-- a copier that held nothing holds this turn for a process
abbrev pub turn_taken : Turn → ℕ → Holdings → Holdings
turn_taken turn process h = with_held turn (Some process) (record h { idle = h.idle - 1 })

-- a seat that has tried a turn for a process, and found this word
abbrev pub tried_seat : Turn → ℕ → ℕ → Holdings → Holdings
tried_seat turn process word h = if word == 0 then turn_taken turn process (with_found_turn turn word h) else with_found_turn turn word h

-- a copier that held this turn holds nothing
abbrev pub turn_given : Turn → Holdings → Holdings
turn_given turn h = with_held turn None (record h { idle = h.idle + 1 })

-- of two holders the first one, if there is one
abbrev pub first_holder : Option ℕ → Option ℕ → Option ℕ
first_holder None other = other
first_holder (Some process) other = Some process

-- a seat that has all that it and another one had, and stands for the copiers of both
abbrev pub holdings_joined : Holdings → Holdings → Holdings
holdings_joined h other =
    let first = first_holder other.first h.first in
    let second = first_holder other.second h.second in
    record { first = first; second = second; idle = copiers_in h + copiers_in other - (held_count first + held_count second); found = other.found ++ h.found }

-- the other one has nothing any more
abbrev pub holdings_spent : Holdings
holdings_spent = idle_copiers 0
