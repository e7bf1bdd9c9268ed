-- What the writer keeps of areas that are gone is what the journal tells: each release, and each soft purge or purge by which old code went, and no other.
-- Source: Erlang/OTP, the manual pages of the module code (soft_purge, purge) and of persistent_term; what is kept in the words is this project's own.
use Rattle.std.specs.Prelude.{◌≡◌, ℕ, List, slice_get, Some, None, IsSomeAnd}
use Rattle.mod_core.specs.declared.code.Module.{Module}
use Rattle.area_core.specs.Blocks.{Among}
use Rattle.marks.specs.declared.kept.DroppedArea.{DroppedArea}
use Rattle.marks.specs.declared.kept.LookKind.{LookKind}
use Rattle.marks.specs.declared.kept.LookKind.TheVariants.{Both, Frame}
use Rattle.marks.specs.declared.kept.WriterKept.{WriterKept}
use Rattle.server_core.specs.declared.command.Cmd.{Cmd}
use Rattle.server_core.specs.declared.command.Cmd.TheVariants as cmds
use Rattle.server_core.specs.ServerState.{ServerState, old_of}
use Rattle.run_log.specs.declared.logs.Entry.{Entry}
use Rattle.run_log.specs.Legal.{published_to, state_before}
use Rattle.run_law.specs.Answers.{AreAnswersKept}

-- the area of this serial was released or dropped when so many generations were published
pub record IsDropAt (kind : LookKind) (serial published : ℕ) (d : DroppedArea) : Type 0 where
  pub kind_is : d.wait.kind ≡ kind
  pub serial_is : d.wait.serial ≡ serial
  pub published_is : d.generation ≡ published

-- a command that is made in this state, when so many generations are published, tells of the drop
abbrev pub TellsDrop : ServerState → ℕ → DroppedArea → Cmd → Type 0
TellsDrop s published d (cmds.Release serial) = IsDropAt Both serial published d
TellsDrop s published d (cmds.SoftPurge name None) = IsSomeAnd (old_of s name.0) (λ serial. IsDropAt Frame serial published d)
TellsDrop s published d (cmds.Purge name killed) = IsSomeAnd (old_of s name.0) (λ serial. IsDropAt Frame serial published d)
TellsDrop s published d cmd = ⊥

-- an entry of the journal tells of it
pub record IsToldIn (texts : List Module) (journal : List Entry) (d : DroppedArea) : Type 0 where
  pub place : ℕ
  pub entry : Entry
  pub at : slice_get journal place ≡ Some entry
  pub tells : TellsDrop (state_before texts place journal) (published_to place journal) d entry.cmd

-- so is each that the writer keeps
abbrev pub AreDropsTold : List Module → List Entry → WriterKept → Type 0
AreDropsTold texts journal kept = (d : DroppedArea) → Among kept.dropped d → IsToldIn texts journal d

-- what the journal tells of processes and areas is kept, and each release and drop that is kept is told
pub record AnswersAgree (texts : List Module) (journal : List Entry) (looks : WriterKept) : Type 0 where
  pub kept : AreAnswersKept texts journal looks
  pub told : AreDropsTold texts journal looks
