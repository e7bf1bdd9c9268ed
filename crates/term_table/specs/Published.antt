-- When what is staged may be published, and what that leaves.
-- Source: Erlang/OTP erts internal documentation, ThreadProgress; the words are this project's own.
use Rattle.std.specs.Prelude.{◌≡◌, ℕ, ◌+◌, ◌≤◌, List, [], ◌∷◌, ◌++◌, length, None, slice_set}
use Rattle.prgr_core.specs.Invariant.{CounterInRange}
use Rattle.term_core.specs.declared.area.AreaRef.{AreaRef}
use Rattle.term_core.specs.declared.generation.Generation.{Generation}
use Rattle.area_core.specs.declared.map.TheConstants.{BUCKETS}
use Rattle.area_core.specs.declared.table.Published.{Published}
use Rattle.area_core.specs.declared.table.KeptArea.{KeptArea}
use Rattle.area_core.specs.Map.{word_at}
use Rattle.area_core.specs.Blocks.{Among, CodeStands, InstancesPlaced, BreakpointsStand, UsedAreKept, AreaStands}
use Rattle.area_core.specs.Step.{to_publish}
use Rattle.shared_words.specs.declared.view.WriterView.{WriterView}
use Rattle.shared_words.specs.Kinds.{counter_kept}
use Rattle.shared_words.specs.Rule.{OldStays, RetiredStays}
use Rattle.shared_words.specs.Publishing.{FreshStand, AreasGoOn, kept_next, with_next}
use Rattle.term_table.specs.Built.{held_in}
use Rattle.progress_words.specs.Roots.{newest_of}
use Rattle.term_table.specs.Tables.{Terms, active_table, staging_table, words_in, Stages}

-- the generation over the staging table, and over the other blocks of the newest one
abbrev pub restaged : WriterView → Generation → List AreaRef → Published
restaged w state areas = to_publish (newest_of w).root.code (newest_of w).root.bp (staging_table w) state areas

-- it may be published: its keys are those that are staged, and the other words and areas stand for it
pub record MayPublishTerms (Served : Published → Type 0) (t : Terms) (w : WriterView) (p : Published) : Type 0 where
  pub terms : Stages t p w
  pub counted : held_in (words_in w.words (staging_table w)) BUCKETS ≡ length p.state.keys
  pub served : Served p
  pub old_stays : OldStays (w.published ++ p ∷ [])
  pub retired_stays : RetiredStays (w.published ++ p ∷ [])
  pub areas_go_on : AreasGoOn w p
  pub placed : InstancesPlaced p
  pub code : CodeStands (word_at w.words) p
  pub breakpoints : BreakpointsStand (word_at w.words) p
  pub used : UsedAreKept (kept_next w p) p
  pub areas : (k : KeptArea) → Among (kept_next w p) k → AreaStands (word_at w.words) k (length w.published) p
  pub fresh : FreshStand w p

-- it is published by one store of the root, nothing is staged, and the value that was taken behind it is kept for the table that
-- was active
pub record HasPublished (t u : Terms) (p : Published) (old new : WriterView) (generation : ℕ) : Type 0 where
  pub counter : ℕ
  -- a counter, which never falls
  pub range : CounterInRange counter
  pub rising : old.counter ≤ counter
  pub view : new ≡ counter_kept counter (with_next p old)
  pub tables : u ≡ record { staged = None; needs = slice_set t.needs (active_table old) (counter + 2) }
  pub number : generation ≡ length old.published
