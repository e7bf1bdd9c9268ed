-- A change of what is traced goes by the phases of a patch: what its steps leave, before and behind the store of the root.
-- Source: Erlang/OTP erts internal documentation, Tracing: a breakpoint is set and cleared in phases, with thread progress between them.
use Rattle.std.specs.Prelude.{◌≡◌, ◌⊎◌, ℕ, ◌<◌, ◌≤◌, List, [], ◌∷◌, ◌++◌, length, Option, Some, None, Result, Ok, Err}
use Rattle.term_core.specs.declared.atom.Mfa.{Mfa}
use Rattle.area_core.specs.declared.table.Published.{Published}
use Rattle.shared_words.specs.Views.{newest_number}
use Rattle.progress_words.specs.declared.answers.NotYet.{NotYet}
use Rattle.progress_words.specs.Needs.{HasTaken}
use Rattle.progress_words.specs.Tokens.{written_by}
use Rattle.server_core.specs.declared.change.Change.{Change}
use Rattle.server_core.specs.declared.change.Change.TheVariants.{SetTrace, ClearTrace}
use Rattle.server_core.specs.Decided.{change_made}
use Rattle.server_core.specs.Generations.{generation_of}
use Rattle.server_core.specs.ServerState.{ServerState}
use Rattle.breakpoints.specs.declared.patch.Patch.{Patch}
use Rattle.breakpoints.specs.declared.patch.PatchStep.{PatchStep}
use Rattle.breakpoints.specs.declared.patch.PatchStep.TheVariants as patch_steps
use Rattle.breakpoints.specs.declared.patch.Phase.{Phase}
use Rattle.breakpoints.specs.declared.patch.Phase.TheVariants.{Begun, Staged, Entered}
use Rattle.breakpoints.specs.Patches.{IsLastPhase}
use Rattle.literal_areas.specs.declared.areas.Areas.{Areas}
use Rattle.literal_areas.specs.declared.blocks.BlockUse.TheVariants.{Live}
use Rattle.literal_areas.specs.Blocks.{use_of}
use Rattle.staging.specs.declared.stage.Stage.{Stage}
use Rattle.staging.specs.declared.stage.Step.{Step}
use Rattle.staging.specs.declared.stage.Step.TheVariants as steps
use Rattle.staging.specs.declared.tables.Tables.{Tables}
use Rattle.staging.specs.Stages.{AreAtRest, AreSettling, IsLate, IsPatched, Waits, patch_need}

-- a change of what is traced
abbrev pub IsTraceChange : Change → Type 0
IsTraceChange (SetTrace generation at traced) = Unit {0}
IsTraceChange (ClearTrace generation at) = Unit {0}
IsTraceChange change = ⊥

-- the value that the patch waited for is awaited still, or the counter that was loaded in this call has reached it
abbrev pub KeepsNeed : Tables → NotYet → Type 0
KeepsNeed old answer = (need : ℕ) → patch_need old.patch ≡ Some need → (answer.need ≡ need) ⊎ (need ≤ answer.current)

-- the counter that was loaded in this call is below the value that the next phase waits for, which was taken while the newest generation was this one
pub record IsPatchLate (old new : Tables) (answer : NotYet) : Type 0 where
  pub late : IsLate old new answer
  pub awaited : patch_need new.patch ≡ Some answer.need
  pub taken : HasTaken (written_by new.writer) (newest_number (written_by new.writer).published) answer.need
  -- it is the one that the patch waited for before this call, unless the counter has reached that one
  pub kept : KeepsNeed old answer

-- whatever the answer is: the value that the patch waited for is awaited still, or the newest counter that the writer loaded has reached it
pub record NeedGoesOn (old new : Tables) : Type 0 where
  -- that counter never falls, and each load of it is kept
  pub rising : (written_by old.writer).counter ≤ (written_by new.writer).counter
  pub longer : length (written_by old.writer).pairs ≤ length (written_by new.writer).pairs
  pub kept : (need : ℕ) → patch_need old.patch ≡ Some need → (patch_need new.patch ≡ Some need) ⊎ (need ≤ (written_by new.writer).counter)

-- one generation more is published, which is that of the state, and the switch is not over
pub record HasSwitched (names : List Mfa) (s : ServerState) (old new : Tables) (generation : ℕ) : Type 0 where
  pub next : Published
  pub shows : next.state ≡ generation_of names s
  pub published : (written_by new.writer).published ≡ (written_by old.writer).published ++ next ∷ []
  pub number : generation ≡ length (written_by old.writer).published
  pub settling : AreSettling names s new

-- what each answer of a step of such a change says
abbrev pub TraceAnswers : List Mfa → ServerState → Change → Tables → Tables → Stage → Step → Type 0
TraceAnswers names s change old new stage (steps.Published generation) = HasSwitched names (change_made s change).state old new generation
TraceAnswers names s change old new stage (steps.NotYet answer) = Waits names s change old new stage (IsPatchLate old new answer)
TraceAnswers names s change old new stage steps.AwaitRelease = ⊥

-- ---- phases before the store of the root

-- the instance of the function that the change traces is live in a block
abbrev pub TraceLives : Change → Areas → Type 0
TraceLives (SetTrace generation at traced) pools = (block : ℕ) × (use_of pools block ≡ Some (Live at.area.serial))
TraceLives (ClearTrace generation at) pools = (block : ℕ) × (use_of pools block ≡ Some (Live at.area.serial))
TraceLives change pools = Unit {0}

-- how many phases are at most left up to the store of the root
abbrev pub phases_to : Phase → ℕ
phases_to Begun = 3
phases_to (Staged need) = 2
phases_to (Entered need) = 1
phases_to phase = 0

-- so for the patch that is under way, if one is
abbrev pub phases_left : Option Patch → ℕ
phases_left None = 0
phases_left (Some patch) = phases_to patch.phase

-- the patch has come to its next phase, and nothing is published
pub record HasMoved (names : List Mfa) (s : ServerState) (change : Change) (old new : Tables) : Type 0 where
  pub published : (written_by new.writer).published ≡ (written_by old.writer).published
  pub patched : IsPatched names s change new
  pub fewer : phases_left new.patch < phases_left old.patch

-- what comes of a step of the patch
abbrev pub AdvanceAnswers : List Mfa → ServerState → Change → Tables → Tables → PatchStep → Type 0
AdvanceAnswers names s change old new patch_steps.Moved = HasMoved names s change old new
AdvanceAnswers names s change old new (patch_steps.Published generation) = HasSwitched names (change_made s change).state old new generation
AdvanceAnswers names s change old new patch_steps.Finished = ⊥

-- ---- phases behind it

-- the switch waits
pub record Settles (names : List Mfa) (s : ServerState) (old new : Tables) (answer : NotYet) : Type 0 where
  pub settling : AreSettling names s new
  pub why : IsPatchLate old new answer

-- what is left of a patch behind a step
abbrev pub patch_left : Result PatchStep NotYet → Patch → Option Patch
patch_left (Ok patch_steps.Moved) patch = Some patch
patch_left (Ok (patch_steps.Published generation)) patch = Some patch
patch_left (Ok patch_steps.Finished) patch = None
patch_left (Err answer) patch = Some patch

-- the patch is at its last phase
pub record IsAtLast (t : Tables) : Type 0 where
  pub patch : Patch
  pub is : t.patch ≡ Some patch
  pub last : IsLastPhase patch.on patch.phase

-- what comes of a step of the patch, whatever state the words stand for
abbrev pub SettleAnswers : List Mfa → Tables → Tables → PatchStep → Type 0
SettleAnswers names old new patch_steps.Moved = ((s : ServerState) → AreSettling names s old → AreSettling names s new) × IsAtLast new × (IsAtLast old → ⊥)
SettleAnswers names old new (patch_steps.Published generation) = ⊥
SettleAnswers names old new patch_steps.Finished = (s : ServerState) → AreSettling names s old → AreAtRest names s new
