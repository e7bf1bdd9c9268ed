-- The two turns, and what stands in their words.
-- Source: Erlang/OTP, persistent_term manual: where a term was deleted or replaced that processes still use, these copy it,
-- and at most two processes at a time will be scheduled to do so. In Erlang/OTP the runtime schedules them; here each takes a turn.
use Rattle.std.specs.Prelude.{◌≡◌, ℕ, ◌+◌, ◌==◌, Option, None, Some, if◌then◌else◌, refl}
use Rattle.copy_turns.specs.declared.turn.Turn.{Turn}
use Rattle.copy_turns.specs.declared.turn.Turn.TheVariants.{First, Second}

-- the place of the word of a turn
abbrev pub turn_place : Turn → ℕ
turn_place First = 0
turn_place Second = 1

-- the turn whose word stands at a place
abbrev pub turn_at : ℕ → Turn
turn_at place = if place == 0 then First else Second

-- each turn is found by its place
pub turn_back : (turn : Turn) → turn_at (turn_place turn) ≡ turn
turn_back First = refl
turn_back Second = refl

-- the word of a turn, by the process for which it is held: 0 where it is held for none
abbrev pub turn_word : Option ℕ → ℕ
turn_word None = 0
turn_word (Some process) = process + 1

-- how often a turn is held: once or never
abbrev pub held_count : Option ℕ → ℕ
held_count None = 0
held_count (Some process) = 1
