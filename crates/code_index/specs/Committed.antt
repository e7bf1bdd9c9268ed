-- When what is staged may be published, and what each answer of a commit says.
-- Source: Erlang/OTP erts internal documentation, CodeLoading and ThreadProgress; the words are this project's own.
use Rattle.std.specs.Prelude.{◌≡◌, ℕ, ◌+◌, ◌<◌, ◌≤◌, List, [], ◌∷◌, ◌++◌, length}
use Rattle.prgr_core.specs.Invariant.{CounterInRange}
use Rattle.term_core.specs.declared.area.AreaRef.{AreaRef}
use Rattle.term_core.specs.declared.generation.Generation.{Generation}
use Rattle.area_core.specs.declared.table.Published.{Published}
use Rattle.area_core.specs.declared.table.KeptArea.{KeptArea}
use Rattle.area_core.specs.Map.{word_at}
use Rattle.area_core.specs.Blocks.{Among, InstancesPlaced, BreakpointsStand, term_blocks_words, UsedAreKept, FitsBlock, ImageStands, AreaStands, KeptApart}
use Rattle.area_core.specs.Terms.{TermsStand}
use Rattle.area_core.specs.Roots.{fresh_areas}
use Rattle.area_core.specs.Step.{to_publish}
use Rattle.shared_words.specs.declared.view.WriterView.{WriterView}
use Rattle.shared_words.specs.Views.{newest_number}
use Rattle.shared_words.specs.Kinds.{counter_kept}
use Rattle.shared_words.specs.Rule.{OldStays, RetiredStays}
use Rattle.shared_words.specs.Publishing.{kept_next, AreasGoOn, with_next}
use Rattle.progress_words.specs.declared.answers.NotYet.{NotYet}
use Rattle.progress_words.specs.Needs.{HasLoadedCounter}
use Rattle.progress_words.specs.Roots.{newest_of}
use Rattle.code_index.specs.declared.index.Staging.{Staging}
use Rattle.code_index.specs.declared.index.Staging.TheVariants.{Nothing, Staged, Committing}
use Rattle.code_index.specs.Staging.{staging_index, block_of, Stages}

-- ---- what is published

-- the generation over the staging index, and over the other blocks of the newest one
abbrev pub committed : WriterView → Generation → List AreaRef → Published
committed w state areas = to_publish (staging_index w) (newest_of w).root.bp (newest_of w).root.term state areas

-- it may be published: its exports are those that are staged, and the other words and areas stand for it
pub record MayCommit (Served : Published → Type 0) (x : Staging) (w : WriterView) (p : Published) : Type 0 where
  pub exports : Stages x p w
  pub served : Served p
  pub old_stays : OldStays (w.published ++ p ∷ [])
  pub retired_stays : RetiredStays (w.published ++ p ∷ [])
  pub areas_go_on : AreasGoOn w p
  pub placed : InstancesPlaced p
  pub breakpoints : BreakpointsStand (word_at w.words) p
  pub terms : TermsStand (term_blocks_words (word_at w.words) p.root) p
  pub used : UsedAreKept (kept_next w p) p
  pub areas : (k : KeptArea) → Among (kept_next w p) k → AreaStands (word_at w.words) k (length w.published) p
  -- the areas that it is the first to use have room, their images, and words that are right in the newest generation too
  pub fit : (k : KeptArea) → Among (fresh_areas w.kept p) k → FitsBlock k
  pub images : (k : KeptArea) → Among (fresh_areas w.kept p) k → ImageStands (word_at w.words) k
  pub fresh : (k : KeptArea) → Among (fresh_areas w.kept p) k → AreaStands (word_at w.words) k (newest_number w.published) (newest_of w)
  pub apart : KeptApart (kept_next w p)

-- ---- the wait

-- the first call of a commit takes a value two above the counter, which never falls, and the commit waits for it from then on
pub record HasTakenFirst (old new : WriterView) (need : ℕ) : Type 0 where
  pub counter : ℕ
  -- a counter, which never falls
  pub range : CounterInRange counter
  pub rising : old.counter ≤ counter
  pub view : new ≡ counter_kept counter old
  pub ahead : need ≡ counter + 2

-- the value is that which a commit waits for; the first call takes it, and each other one keeps it
abbrev pub TakesNeed : Staging → WriterView → WriterView → ℕ → Type 0
TakesNeed Nothing old new need = ⊥
TakesNeed (Staged block) old new need = HasTakenFirst old new need
TakesNeed (Committing block kept) old new need = (new ≡ old) × (need ≡ kept)

-- the commit has begun, and waits for this value
pub record HasBegun (x y : Staging) (old new : WriterView) (need : ℕ) : Type 0 where
  pub taken : TakesNeed x old new need
  pub index : y ≡ Committing (block_of x) need

-- it has asked whether the value is reached, by one load of the counter
pub record HasAsked (x y : Staging) (old new : WriterView) (need : ℕ) : Type 0 where
  pub begun : WriterView
  pub waits : HasBegun x y old begun need
  pub loaded : HasLoadedCounter begun new

-- it is not: the counter that was loaded is below
pub record IsWaiting (x y : Staging) (old new : WriterView) (answer : NotYet) : Type 0 where
  pub asked : HasAsked x y old new answer.need
  pub loaded : answer.current ≡ new.counter
  pub below : answer.current < answer.need

-- ---- the answer

-- the generation is published by one store of the root behind the wait, and nothing is staged
pub record HasCommitted (x y : Staging) (p : Published) (old new : WriterView) (generation : ℕ) : Type 0 where
  pub need : ℕ
  pub waited : WriterView
  pub asked : HasAsked x (Committing (block_of x) need) old waited need
  pub enough : need ≤ waited.counter
  pub view : new ≡ with_next p waited
  pub index : y ≡ Nothing
  pub number : generation ≡ length old.published
