-- What the journal tells of processes, as the writer of the words keeps it: what was released or dropped, and who lingered.
-- Source: Erlang/OTP, the manual pages of the module code (soft_purge, purge) and of persistent_term; what is kept in the words is this project's own.
use Rattle.std.specs.Prelude.{◌≡◌, ◌↔◌, ℕ, ◌<◌, Bool, true, List, slice_get, Some, None, IfSome}
use Rattle.mod_core.specs.declared.code.Module.{Module}
use Rattle.server_core.specs.declared.command.Cmd.{Cmd}
use Rattle.server_core.specs.declared.command.Cmd.TheVariants as cmds
use Rattle.server_core.specs.declared.command.Linger.{Linger}
use Rattle.server_core.specs.ServerState.{ServerState, old_of}
use Rattle.area_core.specs.declared.map.TheConstants.{PROCESSES}
use Rattle.area_core.specs.Blocks.{Among}
use Rattle.marks.specs.declared.kept.DroppedArea.{DroppedArea}
use Rattle.marks.specs.declared.kept.LingeringFrame.{LingeringFrame}
use Rattle.marks.specs.declared.kept.LookKind.{LookKind}
use Rattle.marks.specs.declared.kept.LookKind.TheVariants.{Both, Frame}
use Rattle.marks.specs.declared.kept.WriterKept.{WriterKept}
use Rattle.run_log.specs.declared.logs.Entry.{Entry}
use Rattle.run_log.specs.Legal.{published_to, state_before}

-- an area was released or dropped when so many generations were published
pub record HasDrop (kept : WriterKept) (kind : LookKind) (serial published : ℕ) : Type 0 where
  pub drop : DroppedArea
  pub among : Among kept.dropped drop
  pub kind_is : drop.wait.kind ≡ kind
  pub serial_is : drop.wait.serial ≡ serial
  pub published_is : drop.generation ≡ published

-- a process was killed since it stood in the instance that was dropped: one of the 64 that have slots
abbrev pub HasKilled : DroppedArea → Type 0
HasKilled drop = (process : ℕ) × ((process < PROCESSES) × Among drop.killed process)

-- an instance was purged when so many generations were published, and it is told whether a process was killed
pub record HasPurge (kept : WriterKept) (serial published : ℕ) (killed : Bool) : Type 0 where
  pub dropped : HasDrop kept Frame serial published
  pub told : (killed ≡ true) ↔ HasKilled dropped.drop

-- a process lingered in an instance when so many generations were published: one of the 64 that have slots
pub record HasLingering (kept : WriterKept) (serial published : ℕ) (linger : Linger) : Type 0 where
  pub below : linger.process < PROCESSES
  pub answer : LingeringFrame
  pub among : Among kept.lingering answer
  pub serial_is : answer.wait.serial ≡ serial
  pub published_is : answer.wait.generation ≡ published
  pub process_is : answer.process ≡ linger.process
  pub turn_is : answer.turns ≡ linger.turn

-- what a command tells of processes is kept: it was made in this state, when so many generations were published
abbrev pub IsAnswerKept : ServerState → ℕ → WriterKept → Cmd → Type 0
IsAnswerKept s published kept (cmds.Release serial) = HasDrop kept Both serial published
IsAnswerKept s published kept (cmds.SoftPurge name None) = IfSome (old_of s name.0) (λ serial. HasDrop kept Frame serial published)
IsAnswerKept s published kept (cmds.SoftPurge name (Some linger)) = IfSome (old_of s name.0) (λ serial. HasLingering kept serial published linger)
IsAnswerKept s published kept (cmds.Purge name killed) = IfSome (old_of s name.0) (λ serial. HasPurge kept serial published killed)
IsAnswerKept s published kept _ = Unit {0}

-- so is what each entry of a journal tells
abbrev pub AreAnswersKept : List Module → List Entry → WriterKept → Type 0
AreAnswersKept texts journal kept =
    (place : ℕ) (e : Entry) → slice_get journal place ≡ Some e → IsAnswerKept (state_before texts place journal) (published_to place journal) kept e.cmd
