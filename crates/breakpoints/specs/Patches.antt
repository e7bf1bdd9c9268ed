-- How far the switch of a breakpoint is, and what is so at each of its phases: a decision is staged in the index that no thread reads, the root is stored with that index, and then the other one is made equal.
-- Source: Erlang/OTP erts internal documentation, Tracing (a breakpoint is inserted and removed in phases, with thread progress between them); the words are this project's own.
use Rattle.std.specs.Prelude.{◌≡◌, ◌≢◌, ℕ, ◌<◌, ◌≤◌, Bool, true, false, length, Option, Some, None, IsTrue}
use Rattle.prgr_core.specs.declared.member.Retirement.{Retirement}
use Rattle.term_core.specs.declared.area.CodeRef.{CodeRef}
use Rattle.area_core.specs.declared.map.TheConstants.{BREAKPOINT_INDICES}
use Rattle.area_core.specs.declared.table.KeptArea.{KeptArea}
use Rattle.area_core.specs.Generations.{has_function, is_instance, is_traced_function}
use Rattle.area_core.specs.Map.{block_place, image_entry_at, word_at}
use Rattle.area_core.specs.Blocks.{Among}
use Rattle.area_core.specs.Stores.{entry_word}
use Rattle.shared_words.specs.declared.view.WriterView.{WriterView}
use Rattle.shared_words.specs.Views.{newest_number}
use Rattle.progress_words.specs.Needs.{HasTaken}
use Rattle.progress_words.specs.Roots.{newest_of}
use Rattle.breakpoints.specs.declared.patch.Patch.{Patch}
use Rattle.breakpoints.specs.declared.patch.Phase.{Phase}
use Rattle.breakpoints.specs.declared.patch.Phase.TheVariants.{Begun, Staged, Entered, Published, Restored, Finished}
use Rattle.breakpoints.specs.Indices.{AreIndices, BreakpointsRest, IsStagingUnread, decision_place, staging_breakpoints}

-- ---- the function

-- the function is one of a current or old instance of the newest generation, whose area is kept
pub record IsPatchable (w : WriterView) (at : CodeRef) : Type 0 where
  pub area : KeptArea
  pub kept : Among w.kept area
  pub is : area.area ≡ at.area
  pub has : IsTrue (has_function area at.function)
  pub listed : Among (newest_of w).areas at.area
  pub instance : IsTrue (is_instance (newest_of w) at.area.serial)

-- the place of its entry word
abbrev pub entry_place : CodeRef → ℕ
entry_place at = block_place at.area.block (image_entry_at at.function)

-- ---- the phases

-- what is so of the indices until a wait is over whose value was taken while the newest generation was that
pub record IsPatching (at : CodeRef) (w : WriterView) (need : ℕ) : Type 0 where
  pub patchable : IsPatchable w at
  pub indices : AreIndices (Some at) w
  pub taken : HasTaken w (newest_number w.published) need

-- the decision is staged in the index that no thread reads
pub record IsDecisionStaged (at : CodeRef) (on : Bool) (w : WriterView) : Type 0 where
  pub unread : IsStagingUnread w
  pub staged : word_at w.words (decision_place (staging_breakpoints w) at) ≡ entry_word on

-- what is so at each phase
abbrev pub PhaseStands : CodeRef → Bool → Phase → WriterView → Type 0
PhaseStands at on Begun w = BreakpointsRest w × IsPatchable w at
PhaseStands at on (Staged need) w = IsPatching at w need × IsDecisionStaged at on w
-- the entry word leads calls to the indices, before any generation traces the function
PhaseStands at on (Entered need) w = IsPatching at w need × IsDecisionStaged at on w × (on ≡ true) × (word_at w.words (entry_place at) ≢ 0)
-- threads may still read the index that was active before
PhaseStands at on (Published need) w = IsPatching at w need × (is_traced_function (newest_of w) at.area.serial at.function ≡ on)
-- the entry word leads calls past the indices, and no generation that may be read traces the function
PhaseStands at on (Restored need) w = IsPatching at w need × (is_traced_function (newest_of w) at.area.serial at.function ≡ on) × (on ≡ false) × IsStagingUnread w
PhaseStands at on Finished w = BreakpointsRest w

-- the patch is at its phase
abbrev pub IsPatchOf : Patch → WriterView → Type 0
IsPatchOf x w = PhaseStands x.at x.on x.phase w

-- the value that is waited for before the next phase
abbrev pub phase_need : Phase → Option ℕ
phase_need Begun = None
phase_need (Staged need) = Some need
phase_need (Entered need) = Some need
phase_need (Published need) = Some need
phase_need (Restored need) = Some need
phase_need Finished = None

-- ---- the order of the phases

-- no generation is published yet
abbrev pub IsUnpublished : Phase → Type 0
IsUnpublished Begun = Unit {0}
IsUnpublished (Staged need) = Unit {0}
IsUnpublished (Entered need) = Unit {0}
IsUnpublished phase = ⊥

-- the generation is published, and what was switched is not settled yet
abbrev pub IsSettling : Phase → Type 0
IsSettling (Published need) = Unit {0}
IsSettling (Restored need) = Unit {0}
IsSettling phase = ⊥

-- the root is stored behind this phase: of a breakpoint that is set once the entry word leads to the indices, of one that is cleared once the decision is staged
abbrev pub Switches : Bool → Phase → Type 0
Switches true (Entered need) = Unit {0}
Switches false (Staged need) = Unit {0}
Switches on phase = ⊥

-- a phase and the next one, where no root is stored between them
abbrev pub MovesTo : Bool → Phase → Phase → Type 0
MovesTo on Begun (Staged need) = Unit {0}
MovesTo true (Staged before) (Entered need) = Unit {0}
MovesTo false (Published before) (Restored need) = Unit {0}
MovesTo on before after = ⊥

-- the phase that is the last one
abbrev pub IsLastPhase : Bool → Phase → Type 0
IsLastPhase true (Published need) = Unit {0}
IsLastPhase false (Restored need) = Unit {0}
IsLastPhase on phase = ⊥

-- ---- what a step leaves

-- the counter was loaded in between: each load of it keeps a pair more
abbrev pub LoadsCounter : WriterView → WriterView → Type 0
LoadsCounter old new = length old.pairs < length new.pairs

-- the writer has loaded the counter, and stored no words but the decisions on the function and its entry word
pub record HasPatched (at : CodeRef) (old new : WriterView) : Type 0 where
  pub view : new ≡ record old { words = new.words; pairs = new.pairs; counter = new.counter }
  pub long : length new.words ≡ length old.words
  pub others : (place : ℕ) → ((bp : ℕ) → bp < BREAKPOINT_INDICES → place ≢ decision_place bp at) → place ≢ entry_place at → word_at new.words place ≡ word_at old.words place
  pub more : (pair : Retirement) → Among old.pairs pair → Among new.pairs pair
  pub longer : length old.pairs ≤ length new.pairs
  pub rising : old.counter ≤ new.counter
