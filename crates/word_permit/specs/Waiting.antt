-- A command of a loader that is decided and waits: what is known of it, and how far the words are with it.
-- Source: Erlang/OTP erts internal documentation, CodeLoading (stage, wait for thread progress, commit), and the manual page of persistent_term.
use Rattle.std.specs.Prelude.{◌≡◌, ◌⊎◌, ℕ, ◌+◌, ◌<◌, ◌^◌, List, [], Option, Some, None}
use Rattle.term_core.specs.declared.atom.Mfa.{Mfa}
use Rattle.server_core.specs.declared.change.Change.{Change}
use Rattle.server_core.specs.declared.change.Change.TheVariants.{Nothing}
use Rattle.server_core.specs.CommandTable.{apply_of}
use Rattle.server_core.specs.Decided.{Fits, change_made}
use Rattle.server_core.specs.ServerState.{ServerState}
use Rattle.script_core.specs.declared.script.ScriptCmd.{ScriptCmd}
use Rattle.script_core.specs.declared.script.ScriptCmd.TheVariants.{Load, Delete, Put, Erase, Trace}
use Rattle.staging.specs.declared.tables.Tables.{Tables}
use Rattle.staging.specs.Stages.{AreAtRest, AreSettling, IsStaged, StageStands}
use Rattle.staging.specs.Traced.{IsTraceChange}
use Rattle.write_permit.specs.declared.holder.Holder.{Holder}
use Rattle.write_permit.specs.declared.holder.Holder.TheVariants.{Free, Held, Purging, Tracing}
use Rattle.write_permit.specs.Permit.{PermitState, next_of, command_opening}
use Rattle.word_permit.specs.declared.book.Decision.{Decision}
use Rattle.word_permit.specs.declared.book.Waiting.{Waiting}
use Rattle.word_permit.specs.declared.deciding.Course.{Course}
use Rattle.word_permit.specs.declared.deciding.Course.TheVariants.{Staged, Unchanged, Traced, Unasked}

-- ---- which commands

-- a command that is made over the words: loads, deletes, puts, erases and traces
abbrev pub GoesOverWords : ScriptCmd → Type 0
GoesOverWords (Load refs) = Unit {0}
GoesOverWords (Delete name) = Unit {0}
GoesOverWords (Put key term) = Unit {0}
GoesOverWords (Erase key) = Unit {0}
GoesOverWords (Trace target on) = Unit {0}
GoesOverWords command = ⊥

-- a change that leaves the server's state, as that of a load that is refused
abbrev pub LeavesState : Change → Type 0
LeavesState (Nothing reply) = Unit {0}
LeavesState change = ⊥

-- by what the words follow a change: by stages, by nothing, or, of what is traced, by the phases of a patch
abbrev pub IsCourseOf : Change → Course → Type 0
IsCourseOf change Staged = IsStaged change
IsCourseOf change Unchanged = LeavesState change
IsCourseOf change Traced = IsTraceChange change
IsCourseOf change Unasked = Unit {0}

-- ---- a decided command

-- the decided command is the loader's next one: the command table has a case for it, and what it answers was told
pub record IsDecided (p : PermitState) (who : ℕ) (d : Decision) : Type 0 where
  pub command : ScriptCmd
  pub next : next_of p who ≡ Some command
  pub goes : GoesOverWords command
  pub cmd_is : d.cmd ≡ command_opening p.server [] command
  pub fits : Fits p.server d.change
  pub given : apply_of p.script.modules p.server d.cmd ≡ Some (change_made p.server d.change)
  pub answer : (change_made p.server d.change).answer ≡ d.applied

-- it waits: it is that of the loader which has the permission, and the words are this far with it
pub record IsWaiting (names : List Mfa) (p : PermitState) (t : Tables) (w : Waiting) : Type 0 where
  pub who : ℕ
  pub holder : p.holder ≡ Held who
  pub decided : IsDecided p who w.decision
  pub staged : IsStaged w.decision.change ⊎ IsTraceChange w.decision.change
  pub stands : StageStands names p.server w.decision.change t w.stage

-- the words stand for the state, which the switch of a breakpoint has published; the switch is not over yet, and there is a number for one generation more
pub record IsSwitching (names : List Mfa) (s : ServerState) (t : Tables) : Type 0 where
  pub settling : AreSettling names s t
  pub room : s.generation + 1 < 2 ^ 40

-- the words stand for the server's state, and nothing is under way but the switch of a breakpoint that is published, while its command is not done
abbrev pub RestsBy : List Mfa → Holder → ServerState → Tables → Type 0
RestsBy names Free s t = AreAtRest names s t
RestsBy names (Held by) s t = AreAtRest names s t
RestsBy names (Purging by name) s t = AreAtRest names s t
RestsBy names (Tracing by generation) s t = IsSwitching names s t

-- the words stand for the server's state, and are as far as the command that waits, if one does
abbrev pub WordsStand : List Mfa → PermitState → Tables → Option Waiting → Type 0
WordsStand names p t None = RestsBy names p.holder p.server t
WordsStand names p t (Some w) = IsWaiting names p t w
