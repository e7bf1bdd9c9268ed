-- How far the words are with a change of the server that waits, and what a step of it leaves.
-- Source: Erlang/OTP erts internal documentation, CodeLoading (stage, wait for thread progress, commit), and the manual page of persistent_term.
use Rattle.std.specs.Prelude.{◌≡◌, ◌⊎◌, ℕ, ◌+◌, ◌<◌, ◌≤◌, true, false, List, [], ◌∷◌, ◌++◌, length, slice_index, Option, Some, None}
use Rattle.term_core.specs.declared.area.AreaRef.{AreaRef}
use Rattle.term_core.specs.declared.atom.Mfa.{Mfa}
use Rattle.area_core.specs.declared.table.Published.{Published}
use Rattle.shared_words.specs.declared.view.WriterView.{WriterView}
use Rattle.shared_words.specs.Views.{newest_number}
use Rattle.progress_words.specs.declared.answers.NotYet.{NotYet}
use Rattle.progress_words.specs.Needs.{HasTaken}
use Rattle.progress_words.specs.Tokens.{written_by}
use Rattle.server_core.specs.Generations.{generation_of}
use Rattle.server_core.specs.declared.change.Change.{Change}
use Rattle.server_core.specs.declared.change.Change.TheVariants.{BringIn, MakeOld, HoldWord, HoldArea, Forget, SetTrace, ClearTrace}
use Rattle.server_core.specs.Decided.{change_made}
use Rattle.server_core.specs.ServerState.{ServerState, entry_of}
use Rattle.breakpoints.specs.declared.patch.Patch.{Patch}
use Rattle.breakpoints.specs.Patches.{IsSettling, IsUnpublished, LoadsCounter, phase_need}
use Rattle.code_index.specs.declared.index.Staging.{Staging}
use Rattle.code_index.specs.declared.index.Staging.TheVariants.{Nothing, Staged, Committing}
use Rattle.literal_areas.specs.declared.areas.Areas.{Areas}
use Rattle.term_table.specs.Tables.{staging_table}
use Rattle.staging.specs.declared.tables.Tables.{Tables}
use Rattle.staging.specs.declared.stage.Stage.{Stage}
use Rattle.staging.specs.declared.stage.Stage.TheVariants.{Untouched, Placed, Exported, Patching}
use Rattle.staging.specs.declared.placing.Placing.{Placing}
use Rattle.staging.specs.declared.placing.Placing.TheVariants.{Whole, AwaitRelease}
use Rattle.staging.specs.declared.stage.Step.{Step}
use Rattle.staging.specs.declared.stage.Step.TheVariants as steps
use Rattle.staging.specs.Exported.{AreExported}
use Rattle.change_laws.specs.Changes.{incoming}
use Rattle.staging.specs.Placed.{ArePlaced, NextAwaitsRelease}
use Rattle.staging.specs.Standing.{StandFor}

-- ---- how far

-- no exports and no keys are staged, and no breakpoint is switched
pub record NothingStaged (t : Tables) : Type 0 where
  pub index : t.index ≡ Nothing
  pub terms : t.terms.staged ≡ None
  pub patch : t.patch ≡ None

-- the words stand for the state, and nothing is under way
pub record AreAtRest (names : List Mfa) (s : ServerState) (t : Tables) : Type 0 where
  pub stands : StandFor names s t.pools (written_by t.writer)
  pub staged : NothingStaged t

-- the words stand for the state, and the first of what the change brings in has these areas beside
pub record HavePlaced (names : List Mfa) (s : ServerState) (change : Change) (t : Tables) (taken : List AreaRef) : Type 0 where
  pub rest : Areas
  pub stands : StandFor names s rest (written_by t.writer)
  pub placed : ArePlaced (incoming change) rest t.pools (written_by t.writer) taken
  pub terms : t.terms.staged ≡ None
  pub patch : t.patch ≡ None

-- a change of code alone
abbrev pub IsCodeChange : Change → Type 0
IsCodeChange (BringIn generation modules areas versions) = Unit {0}
IsCodeChange (MakeOld generation name) = Unit {0}
IsCodeChange change = ⊥

-- all of it has, and exports are staged, which those of a change of code alone are
pub record HaveExported (names : List Mfa) (s : ServerState) (change : Change) (t : Tables) (taken : List AreaRef) : Type 0 where
  pub code : IsCodeChange change
  pub placed : HavePlaced names s change t taken
  pub whole : length taken ≡ length (incoming change)
  pub exported : AreExported names s change t

-- the patch is that of the change: of its function, and on or off
abbrev pub IsPatchFor : Change → Patch → Type 0
IsPatchFor (SetTrace generation at traced) patch = (entry_of patch.at ≡ entry_of at) × (patch.on ≡ true)
IsPatchFor (ClearTrace generation at) patch = (entry_of patch.at ≡ entry_of at) × (patch.on ≡ false)
IsPatchFor change patch = ⊥

-- the words stand for the state, and the breakpoint of the change is being switched, with nothing published
pub record IsPatched (names : List Mfa) (s : ServerState) (change : Change) (t : Tables) : Type 0 where
  pub stands : StandFor names s t.pools (written_by t.writer)
  pub index : t.index ≡ Nothing
  pub terms : t.terms.staged ≡ None
  pub patch : Patch
  pub is : t.patch ≡ Some patch
  pub of : IsPatchFor change patch
  pub before : IsUnpublished patch.phase

-- the words stand for the state, which the switch of a breakpoint has published; the switch is not over yet
pub record AreSettling (names : List Mfa) (s : ServerState) (t : Tables) : Type 0 where
  pub stands : StandFor names s t.pools (written_by t.writer)
  pub index : t.index ≡ Nothing
  pub terms : t.terms.staged ≡ None
  pub patch : Patch
  pub is : t.patch ≡ Some patch
  pub behind : IsSettling patch.phase

-- what is so at a stage of the change
abbrev pub StageStands : List Mfa → ServerState → Change → Tables → Stage → Type 0
StageStands names s change t Untouched = AreAtRest names s t
StageStands names s change t (Placed areas) = HavePlaced names s change t areas.items × (t.index ≡ Nothing)
StageStands names s change t (Exported areas) = HaveExported names s change t areas.items
StageStands names s change t Patching = IsPatched names s change t

-- what a change that is given up leaves of what the writer knows: a patch has its decision taken back, else nothing is stored
abbrev pub LeavesView : Stage → WriterView → WriterView → Type 0
LeavesView Patching old new = new ≡ record old { words = new.words }
LeavesView stage old new = new ≡ old

-- the areas that the first of what a change brings in has at a stage
abbrev pub areas_at : Stage → List AreaRef
areas_at Untouched = []
areas_at (Placed areas) = areas.items
areas_at (Exported areas) = areas.items
areas_at Patching = []

-- whether all that a change brings in has its areas, as it is told
abbrev pub PlacingAnswers : Change → Tables → List AreaRef → Placing → Type 0
PlacingAnswers change t taken Whole = length taken ≡ length (incoming change)
PlacingAnswers change t taken AwaitRelease = NextAwaitsRelease change t.pools taken

-- whether what comes in at this place has its area
abbrev pub NextAnswers : Change → ℕ → Tables → List AreaRef → Placing → Type 0
NextAnswers change at t taken Whole = length taken ≡ at + 1
NextAnswers change at t taken AwaitRelease = (length taken ≡ at) × NextAwaitsRelease change t.pools taken

-- ---- what is waited for

-- the value that the commit of staged exports waits for, once it has taken one
abbrev pub commit_need : Staging → Option ℕ
commit_need Nothing = None
commit_need (Staged block) = None
commit_need (Committing block need) = Some need

-- the value from which on nobody reads the term table in which a key is staged
abbrev pub table_need : Tables → ℕ
table_need t = slice_index t.terms.needs (staging_table (written_by t.writer))

-- the value that the next phase of a patch waits for, if one is under way
abbrev pub patch_need : Option Patch → Option ℕ
patch_need None = None
patch_need (Some patch) = phase_need patch.phase

-- the value of the counter that a change waits for: a change of code for that of its commit, a change of a key for that of the term table, a change of what is traced for that of its patch
abbrev pub awaited_by : Change → Tables → Option ℕ
awaited_by (BringIn generation modules areas versions) t = commit_need t.index
awaited_by (MakeOld generation name) t = commit_need t.index
awaited_by (HoldWord generation key term keys retired) t = Some (table_need t)
awaited_by (HoldArea generation key term kept areas keys retired) t = Some (table_need t)
awaited_by (Forget generation key retired) t = Some (table_need t)
awaited_by (SetTrace generation at traced) t = patch_need t.patch
awaited_by (ClearTrace generation at) t = patch_need t.patch
awaited_by change t = None

-- ---- a step

-- a change of a key alone
abbrev pub IsKeyChange : Change → Type 0
IsKeyChange (HoldWord generation key term keys retired) = Unit {0}
IsKeyChange (HoldArea generation key term kept areas keys retired) = Unit {0}
IsKeyChange (Forget generation key retired) = Unit {0}
IsKeyChange change = ⊥

-- a change that goes by stages
abbrev pub IsStaged : Change → Type 0
IsStaged change = IsCodeChange change ⊎ IsKeyChange change

-- the change is published: one generation more, which is that of the state that it leaves
pub record HasPublished (names : List Mfa) (s : ServerState) (old new : Tables) (generation : ℕ) : Type 0 where
  pub next : Published
  pub shows : next.state ≡ generation_of names s
  pub published : (written_by new.writer).published ≡ (written_by old.writer).published ++ next ∷ []
  pub number : generation ≡ length (written_by old.writer).published
  pub rest : AreAtRest names s new

-- nothing is published, and this is why the change waits
pub record Waits (names : List Mfa) (s : ServerState) (change : Change) (old new : Tables) (stage : Stage) (Why : Type 0) : Type 0 where
  pub published : (written_by new.writer).published ≡ (written_by old.writer).published
  pub stands : StageStands names s change new stage
  pub why : Why

-- the counter that was loaded in this call is below what is awaited
pub record IsLate (old new : Tables) (answer : NotYet) : Type 0 where
  pub loads : LoadsCounter (written_by old.writer) (written_by new.writer)
  pub loaded : answer.current ≡ (written_by new.writer).counter
  pub below : answer.current < answer.need

-- and what is awaited is the value that the change waits for
pub record IsLateFor (change : Change) (old new : Tables) (answer : NotYet) : Type 0 where
  pub late : IsLate old new answer
  pub awaited : awaited_by change new ≡ Some answer.need
  -- it is the one that the change waited for before this call, if it did
  pub kept : (need : ℕ) → awaited_by change old ≡ Some need → answer.need ≡ need
  -- that of a commit was taken while the newest generation was this one
  pub taken : (need : ℕ) → commit_need new.index ≡ Some need → HasTaken (written_by new.writer) (newest_number (written_by new.writer).published) need

-- what each answer says
abbrev pub StepAnswers : List Mfa → ServerState → Change → Tables → Tables → Stage → Step → Type 0
StepAnswers names s change old new stage (steps.Published generation) = HasPublished names (change_made s change).state old new generation
StepAnswers names s change old new stage (steps.NotYet answer) = Waits names s change old new stage (IsLateFor change old new answer)
StepAnswers names s change old new stage steps.AwaitRelease = Waits names s change old new stage (NextAwaitsRelease change new.pools (areas_at stage))

-- a change that waits for the counter lacks no block: all that it brings in has its area
abbrev pub LacksNone : Change → Stage → Step → Type 0
LacksNone change stage (steps.NotYet answer) = length (areas_at stage) ≡ length (incoming change)
LacksNone change stage answer = Unit {0}

-- how far a stage is
abbrev pub stage_number : Stage → ℕ
stage_number Untouched = 0
stage_number (Placed areas) = 1
stage_number (Exported areas) = 2
stage_number Patching = 1

-- a change that is not published yet has come so far at least
abbrev pub GoesOn : ℕ → Stage → Step → Type 0
GoesOn far stage (steps.Published generation) = Unit {0}
GoesOn far stage answer = far ≤ stage_number stage
