-- What is true of each turn, whatever it reads of the server: for which instance a process is killed, what is held after its turn, and how turns count.
-- Source: the manual page `code`, for the end of what stands in purged code; what is held and how many turns there are at most is this project's own.
use Rattle.std.specs.Prelude.{◌≡◌, ◌+◌, ℕ, IsTrue, []}
use Rattle.machine_core.specs.declared.process.End.{End}
use Rattle.machine_core.specs.declared.process.End.TheVariants.{Killed, SystemLimit}
use Rattle.machine_core.specs.declared.process.TheConstants.{MOST_TURNS}
use Rattle.machine_core.specs.declared.process.TurnEnd.TheVariants.{Again, Ended}
use Rattle.machine_core.specs.Holds.{is_among}
use Rattle.machine_core.specs.Process.{PlainProcess, names_of}
use Rattle.machine_core.specs.Reads.{Reads}
use Rattle.machine_core.specs.Turn.{held_after, turn_by}

-- a law of each turn, by anything that a turn can read, of any process
abbrev pub OfEachTurn : (Reads → PlainProcess → Type 0) → Type 0
OfEachTurn law = (r : Reads) (p : PlainProcess) → law r p

-- a process that a turn killed for an instance
pub record IsKilledFor (r : Reads) (p : PlainProcess) (serial : ℕ) : Type 0 where
  -- by what the turn read, the instance is being purged
  pub doomed : IsTrue (r.doomed serial)
  -- a frame of the process stood in it: it is still held for that one
  pub held : IsTrue (is_among (held_after r p).frames serial)

-- a turn that ends with a kill tells such an instance
abbrev pub KillsForDoomed : Reads → PlainProcess → Type 0
KillsForDoomed r p = (serial : ℕ) → (turn_by r p).end ≡ Ended (Killed serial) → IsKilledFor r p serial

-- what a turn leaves held and standing
pub record LeavesNames (r : Reads) (p : PlainProcess) : Type 0 where
  -- where the process goes on, just what it then names is held
  pub again : (turn_by r p).end ≡ Again → held_after r p ≡ names_of (turn_by r p).process
  -- where it ended, it has no frames, so that it names nothing
  pub ended : (end : End) → (turn_by r p).end ≡ Ended end → (turn_by r p).process.frames ≡ []

-- how a turn counts
pub record IsCounted (r : Reads) (p : PlainProcess) : Type 0 where
  -- it is one more, unless the process had as many as can be
  pub more : (p.turns ≡ MOST_TURNS → ⊥) → (turn_by r p).process.turns ≡ p.turns + 1
  -- so it is where the process goes on
  pub again : (turn_by r p).end ≡ Again → (turn_by r p).process.turns ≡ p.turns + 1
  -- a process that had as many as can be ends at the limit
  pub limit : p.turns ≡ MOST_TURNS → (turn_by r p).end ≡ Ended SystemLimit
