-- What is published by the switch of a breakpoint: the next generation over the staging index, which traces what the newest one traces, but for the one function.
-- Source: Erlang/OTP erts internal documentation, Tracing: the index of breakpoints is switched by one store; that the store is that of the root is this project's own.
use Rattle.std.specs.Prelude.{◌≡◌, ℕ, ◌==◌, ◌&&◌, ◌<◌, ◌≤◌, Bool, if◌then◌else◌, List, [], ◌∷◌, ◌++◌, length, Option, Some, None, IsTrue}
use Rattle.prgr_core.specs.declared.member.Retirement.{Retirement}
use Rattle.term_core.specs.declared.area.AreaRef.{AreaRef}
use Rattle.term_core.specs.declared.area.CodeRef.{CodeRef}
use Rattle.term_core.specs.declared.generation.Generation.{Generation}
use Rattle.area_core.specs.declared.table.KeptArea.{KeptArea}
use Rattle.area_core.specs.declared.table.Published.{Published}
use Rattle.area_core.specs.Generations.{is_instance, is_traced_function}
use Rattle.area_core.specs.Map.{word_at}
use Rattle.area_core.specs.Blocks.{Among, CodeStands, DoomTells, InstancesPlaced, KeptApart, RetireTells, UsedAreKept, term_blocks_words}
use Rattle.area_core.specs.Roots.{fresh_areas}
use Rattle.area_core.specs.Step.{to_publish}
use Rattle.area_core.specs.Terms.{TermsStand}
use Rattle.shared_words.specs.declared.view.WriterView.{WriterView}
use Rattle.shared_words.specs.Rule.{OldStays, RetiredStays}
use Rattle.shared_words.specs.Publishing.{AreasGoOn, with_next}
use Rattle.progress_words.specs.declared.answers.NotYet.{NotYet}
use Rattle.progress_words.specs.Roots.{newest_of}
use Rattle.breakpoints.specs.declared.patch.Patch.{Patch}
use Rattle.breakpoints.specs.declared.patch.Phase.TheVariants.{Finished, Published as IsSwitched}
use Rattle.breakpoints.specs.declared.patch.PatchStep.{PatchStep}
use Rattle.breakpoints.specs.declared.patch.PatchStep.TheVariants as steps
use Rattle.breakpoints.specs.Indices.{staging_breakpoints}
use Rattle.breakpoints.specs.Patches.{IsLastPhase, HasPatched, LoadsCounter, MovesTo, Switches, phase_need}

-- the generation over the staging index, and over the other blocks of the newest one
abbrev pub switched_over : WriterView → Generation → List AreaRef → Published
switched_over w state areas = to_publish (newest_of w).root.code (staging_breakpoints w) (newest_of w).root.term state areas

-- a generation traces what another one traces, but that this function is traced or not
abbrev pub TracesWith : CodeRef → Bool → Published → Published → Type 0
TracesWith at on p q =
    (serial function : ℕ) → is_traced_function q serial function ≡ (if (serial == at.area.serial) && (function == at.function) then on else is_traced_function p serial function)

-- it may be published: it traces so, it has the instances of the newest generation and no new area, and the other words stand for it
pub record MaySwitch (Served : Published → Type 0) (x : Patch) (w : WriterView) (p : Published) : Type 0 where
  pub served : Served p
  pub old_stays : OldStays (w.published ++ p ∷ [])
  pub retired_stays : RetiredStays (w.published ++ p ∷ [])
  pub areas_go_on : AreasGoOn w p
  pub placed : InstancesPlaced p
  pub code : CodeStands (word_at w.words) p
  pub terms : TermsStand (term_blocks_words (word_at w.words) p.root) p
  pub used : UsedAreKept w.kept p
  pub none_fresh : fresh_areas w.kept p ≡ []
  pub apart : KeptApart w.kept
  pub told : (k : KeptArea) → Among w.kept k → RetireTells (word_at w.words) k (length w.published) p × DoomTells (word_at w.words) k (length w.published) p
  pub traces : TracesWith x.at x.on (newest_of w) p
  -- the instance of the function is one of its instances
  pub patched : IsTrue (is_instance p x.at.area.serial)
  pub instances : (a : AreaRef) → Among p.areas a → IsTrue (is_instance p a.serial) → Among (newest_of w).areas a × IsTrue (is_instance (newest_of w) a.serial)

-- ---- what each answer says

-- the value of the phase is not reached: the counter that was loaded in this call is below
pub record PatchWaits (x y : Patch) (old new : WriterView) (answer : NotYet) : Type 0 where
  pub same : y ≡ x
  pub patched : HasPatched x.at old new
  pub words : new.words ≡ old.words
  pub need : phase_need x.phase ≡ Some answer.need
  pub loads : LoadsCounter old new
  pub loaded : answer.current ≡ new.counter
  pub below : answer.current < answer.need

-- the value that a phase waited for is reached
abbrev pub NeedIsReached : Option ℕ → WriterView → Type 0
NeedIsReached None w = Unit {0}
NeedIsReached (Some need) w = need ≤ w.counter

-- the next phase has come
pub record PatchMoves (x y : Patch) (old new : WriterView) : Type 0 where
  pub reached : NeedIsReached (phase_need x.phase) new
  pub next : MovesTo x.on x.phase y.phase
  pub patched : HasPatched x.at old new

-- the generation was published by one store of the root, once the value was reached
pub record PatchSwitches (x y : Patch) (p : Published) (old new : WriterView) (generation : ℕ) : Type 0 where
  pub due : Switches x.on x.phase
  -- what the writer knew once the value was reached
  pub waited : WriterView
  pub counted : HasPatched x.at old waited
  pub words : waited.words ≡ old.words
  pub reached : NeedIsReached (phase_need x.phase) waited
  -- it has published the generation, and taken the next value to wait for
  pub need : ℕ
  pub phase : y.phase ≡ IsSwitched need
  pub view : new ≡ record (with_next p waited) { pairs = new.pairs; counter = new.counter }
  pub more : (pair : Retirement) → Among waited.pairs pair → Among new.pairs pair
  pub longer : length waited.pairs ≤ length new.pairs
  pub rising : waited.counter ≤ new.counter
  pub number : generation ≡ length old.published

-- the last phase is over
pub record PatchEnds (x y : Patch) (old new : WriterView) : Type 0 where
  pub last : IsLastPhase x.on x.phase
  pub reached : NeedIsReached (phase_need x.phase) new
  pub phase : y.phase ≡ Finished
  pub patched : HasPatched x.at old new

-- what a step of a patch leaves
abbrev pub PatchAnswers : Patch → Patch → Published → WriterView → WriterView → PatchStep → Type 0
PatchAnswers x y p old new steps.Moved = PatchMoves x y old new
PatchAnswers x y p old new (steps.Published generation) = PatchSwitches x y p old new generation
PatchAnswers x y p old new steps.Finished = PatchEnds x y old new
