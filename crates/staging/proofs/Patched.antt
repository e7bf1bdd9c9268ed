-- What stays of a patch, or of the rest of the breakpoint indices, over the other stores of the writer.
use Rattle.std.proofs.Common.{◌≡◌, ◌≢◌, ℕ, ◌+◌, ◌<◌, ◌≤◌, inl, Bool, true, List, length, refl, sym, subst, arith}
use Rattle.std.specs.Prelude.{Option, Some, None}
use Rattle.term_core.specs.declared.area.CodeRef.{CodeRef}
use Rattle.area_core.specs.declared.table.KeptArea.{KeptArea}
use Rattle.area_core.specs.Blocks.{Among, FitsBlock, IsForInstances}
use Rattle.area_core.specs.Generations.{has_function}
use Rattle.area_core.specs.Map.{block_place, breakpoint_at, breakpoint_place, image_entry_at, word_at}
use Rattle.marks.specs.declared.kept.WriterKept.{WriterKept}
use Rattle.shared_words.specs.declared.view.WriterView.{WriterView}
use Rattle.shared_words.specs.Kinds.{counter_kept}
use Rattle.progress_words.specs.Needs.{HasLoadedCounter}
use Rattle.breakpoints.specs.declared.patch.Patch.{Patch}
use Rattle.breakpoints.specs.declared.patch.Phase.{Phase}
use Rattle.breakpoints.specs.declared.patch.Phase.TheVariants.{Finished}
use Rattle.breakpoints.specs.Indices.{BreakpointsRest}
use Rattle.breakpoints.specs.Laws.{LeavesDecisions}
use Rattle.breakpoints.specs.Patches.{PhaseStands}
use Rattle.breakpoints.proofs.Others.{counted_here, counted_leaves, others_keep}
use Rattle.breakpoints.proofs.Spots.{area_for}
use Rattle.literal_areas.specs.Written.{KeepsOtherBlocks}
use Rattle.staging.specs.Whose.{PatchStands, StoresExports}
use Rattle.staging.proofs.Elsewhere.{big_room}
use Rattle.staging.proofs.Frames.{at_fits, block_behind}
use Rattle.staging.proofs.IndexStores.{behind_elsewhere, third_behind}

-- ---- any step that leaves the decisions

pub patch_leaves : (o after : Option Patch) (old new : WriterView) → after ≡ o → LeavesDecisions old new → PatchStands o old → PatchStands after new
patch_leaves o after old new is leaves was = subst (λ (p : Option Patch). PatchStands p new) (sym is) (by o was)
  where
    by : (o : Option Patch) → PatchStands o old → PatchStands o new
    by None was = (others_keep old new leaves).0 was
    by (Some patch) was = (others_keep old new leaves).1 patch was

-- ---- stores of words

-- words were stored, none of them a decision or the entry word of a function
pub record StoresBeside (old new : WriterView) : Type 0 where
  pub long : length new.words ≡ length old.words
  pub decisions : (bp block function : ℕ) → bp < 2 → IsForInstances block → function < 16 → word_at new.words (breakpoint_place bp block function) ≡ word_at old.words (breakpoint_place bp block function)
  pub entries : (k : KeptArea) (function : ℕ) → Among old.kept k → has_function k function ≡ true → word_at new.words (block_place k.area.block (image_entry_at function)) ≡ word_at old.words (block_place k.area.block (image_entry_at function))
  pub same : new ≡ record old { words = new.words }

leaves_here : (old : WriterView) (words : List ℕ) → StoresBeside old (record old { words = words }) → LeavesDecisions old (record old { words = words })
leaves_here old words stores = record {
  long = stores.long;
  published = refl;
  decisions = λ block function for few. inl (λ bp fits. stores.decisions bp block function fits for few);
  entries = λ k function among has. stores.entries k function among has;
  kept = λ k among. among;
  dropped = λ k among. inl among;
  more = λ pair among. among;
  rising = omega (arith);
}

leaves_beside : (old new : WriterView) → StoresBeside old new → LeavesDecisions old new
leaves_beside old new stores = subst (LeavesDecisions old) (sym stores.same) (leaves_here old new.words (record { long = stores.long; decisions = stores.decisions; entries = stores.entries; same = refl }))

pub patch_beside : (o after : Option Patch) (old new : WriterView) → after ≡ o → StoresBeside old new → PatchStands o old → PatchStands after new
patch_beside o after old new is stores was = patch_leaves o after old new is (leaves_beside old new stores) was

-- words in front of the blocks
pub front_beside : (old new : WriterView) → length new.words ≡ length old.words → ((place : ℕ) → 1493 ≤ place → word_at new.words place ≡ word_at old.words place) → new ≡ record old { words = new.words } → StoresBeside old new
front_beside old new long others same = record {
  long = long;
  decisions = λ bp block function low for few. others (breakpoint_place bp block function) (block_behind (3 + bp) (breakpoint_at block function));
  entries = λ k function among has. others (block_place k.area.block (image_entry_at function)) (block_behind k.area.block (image_entry_at function));
  same = same;
}

-- words of code indices
pub exports_beside : (old new : WriterView) → length new.words ≡ length old.words → ((k : KeptArea) → Among old.kept k → 9 ≤ k.area.block) → StoresExports old new → StoresBeside old new
exports_beside old new long areas stores = record {
  long = long;
  decisions = λ bp block function low for few.
      let place = breakpoint_at block function in
      stores.others (block_place (3 + bp) place) (behind_elsewhere (block_place (3 + bp) place) (third_behind (3 + bp) place (omega arith)));
  entries = λ k function among has.
      let first = areas k among in
      stores.others (block_place k.area.block (image_entry_at function)) (behind_elsewhere (block_place k.area.block (image_entry_at function)) (third_behind k.area.block (image_entry_at function) (omega (arith, first))));
  same = stores.same;
}

-- the areas that are kept fit their blocks
fits_at : (at : CodeRef) (on : Bool) (phase : Phase) (w : WriterView) → PhaseStands at on phase w → (k : KeptArea) → Among w.kept k → FitsBlock k
fits_at at on Finished w h = h.indices.areas
fits_at at on phase w h = h.0.indices.areas

pub patch_fits : (o : Option Patch) (w : WriterView) → PatchStands o w → (k : KeptArea) → Among w.kept k → FitsBlock k
patch_fits None w h = h.indices.areas
patch_fits (Some patch) w h = fits_at patch.at patch.on patch.phase w h

-- words of a block in which no area is kept
pub write_beside : (block : ℕ) (old new : WriterView) → 9 ≤ block → length new.words ≡ length old.words → ((k : KeptArea) → Among old.kept k → FitsBlock k) → ((k : KeptArea) → Among old.kept k → k.area.block ≢ block) → KeepsOtherBlocks block old new → new ≡ record old { words = new.words } → StoresBeside old new
write_beside block old new high long fit unkept others same = record {
  long = long;
  decisions = λ bp other function low for few.
      others (3 + bp) (breakpoint_at other function) (λ is. absurd (omega (arith, is, low, high))) (omega (arith, low))
      (subst (λ (room : ℕ). breakpoint_at other function < room) (sym (big_room (3 + bp) (omega (arith, low)))) (at_fits other function for few));
  entries = λ k function among has.
      let both = area_for k function (fit k among) has in
      let last = both.0.last in
      let few = both.1 in
      others k.area.block (image_entry_at function) (unkept k among) (omega (arith, last))
      (subst (λ (room : ℕ). image_entry_at function < room) (sym (big_room k.area.block last)) (omega (arith, few)));
  same = same;
}

-- ---- a load of the counter, and looks

pub patch_loaded : (o after : Option Patch) (old new : WriterView) → after ≡ o → HasLoadedCounter old new → PatchStands o old → PatchStands after new
patch_loaded o after old new is loaded was = patch_leaves o after old new is (counted_leaves old new loaded) was

pub rest_counted : (w : WriterView) (counter : ℕ) → w.counter ≤ counter → BreakpointsRest w → BreakpointsRest (counter_kept counter w)
rest_counted w counter rises was = (others_keep w (counter_kept counter w) (counted_here w counter rises)).0 was

pub looked_leaves : (w : WriterView) (looks : WriterKept) → LeavesDecisions w (record w { looks = looks })
looked_leaves w looks = record {
  long = refl;
  published = refl;
  decisions = λ block function for few. inl (λ bp fits. refl);
  entries = λ k function among has. refl;
  kept = λ k among. among;
  dropped = λ k among. inl among;
  more = λ pair among. among;
  rising = omega (arith);
}

pub rest_looked : (w : WriterView) (looks : WriterKept) → BreakpointsRest w → BreakpointsRest (record w { looks = looks })
rest_looked w looks was = (others_keep w (record w { looks = looks }) (looked_leaves w looks)).0 was

-- ---- none is under way

pub rest_of : (o : Option Patch) (w : WriterView) → o ≡ None → PatchStands o w → BreakpointsRest w
rest_of o w none was = subst (λ (p : Option Patch). PatchStands p w) none was

pub rests : (o : Option Patch) (w : WriterView) → o ≡ None → BreakpointsRest w → PatchStands o w
rests o w none rest = subst (λ (p : Option Patch). PatchStands p w) (sym none) rest
