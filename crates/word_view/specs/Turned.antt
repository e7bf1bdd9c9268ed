-- What a turn over the shared words leaves.
-- Source: Erlang/OTP erts internal documentation, CodeLoading: a turn sees one state of the code.
use Rattle.std.specs.Prelude.{◌≡◌, List, Option, Result, IfOk}
use Rattle.term_core.specs.declared.no_memory.NoMemory.{NoMemory}
use Rattle.shared_words.specs.declared.seats.Member as tokens
use Rattle.machine_core.specs.declared.process.Line.{Line}
use Rattle.machine_core.specs.declared.process.Process.{Process}
use Rattle.machine_core.specs.declared.process.TurnEnd.{TurnEnd}
use Rattle.machine_core.specs.declared.process.TurnEnd.TheVariants.{Again}
use Rattle.machine_core.specs.Holds.{Holds}
use Rattle.machine_core.specs.Process.{process_of}
use Rattle.machine_core.specs.Turn.{MayTurn, TurnGives, held_after}
use Rattle.machine_core.specs.View.{Shown}
use Rattle.word_view.specs.Views.{IsFrom, IsView, Viewed, held_of_view}

-- the turn is the definition of a turn under what a view shows; then what the process names is held, and it may have its next turn
-- under that, where it goes on
pub record IsTurn (shown : Shown) (held : Holds) (old new : Process) (lines made : List Line) (end : TurnEnd) : Type 0 where
  pub gives : TurnGives shown.reads (process_of shown.words old) (process_of shown.words new) lines made end
  pub holds : held ≡ held_after shown.reads (process_of shown.words old)
  pub again : end ≡ Again → MayTurn shown held new

-- the view is taken apart then; after want of memory only the member counts
pub record HasTurned (began : Option Viewed) (shown : Shown) (member : tokens.Member) (end : Result TurnEnd NoMemory) (old new : Process) (lines made : List Line) : Type 0 where
  pub after : Viewed
  pub token : member ≡ after.token
  pub view : IsView after
  pub from : IsFrom began after
  pub turn : IfOk end (IsTurn shown (held_of_view after) old new lines made)
