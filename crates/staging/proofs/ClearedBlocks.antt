-- The decisions on the functions of a block are cleared before the block is freed: the words stand for what they stood for.
use Rattle.std.proofs.Common.{◌≡◌, ℕ, ◌+◌, ◌<◌, ◌≤◌, inl, inr, List, length, refl, sym, ap, subst, ◌∙◌, arith}
use Rattle.std.proofs.lemmas.Bool.{cases_eq}
use Rattle.atomic_table.specs.Seated.{TableId}
use Rattle.term_core.specs.declared.area.AreaRef.{AreaRef}
use Rattle.term_core.specs.declared.atom.Mfa.{Mfa}
use Rattle.area_core.specs.declared.table.KeptArea.{KeptArea}
use Rattle.area_core.specs.Blocks.{Among, IsForInstances}
use Rattle.area_core.specs.Map.{block_place, breakpoint_at, breakpoint_place, doom_place, image_entry_at, retire_place, word_at}
use Rattle.marks.specs.declared.kept.LookKind.TheVariants.{Both}
use Rattle.shared_words.specs.declared.opening.Opening.{Opening}
use Rattle.shared_words.specs.declared.view.WriterView.{WriterView}
use Rattle.shared_words.specs.Slots.{IsClear}
use Rattle.progress_words.specs.Tokens.{IsWriterOf, written_by}
use Rattle.server_core.specs.declared.change.Change.{Change}
use Rattle.server_core.specs.Decided.{change_made}
use Rattle.server_core.specs.ServerState.{ServerState}
use Rattle.breakpoints.specs.Laws.{AreasAreBehind, HasCleared, IsUncalled, KeepsDecision, LeavesDecisions}
use Rattle.breakpoints.proofs.Spots.{decisions_apart}
use Rattle.change_laws.specs.Changes.{Incoming, instance, stored}
use Rattle.code_index.specs.Laws as indices
use Rattle.code_index.specs.Staging.{IsIndexOf, Stages}
use Rattle.literal_areas.specs.declared.areas.Areas.{Areas}
use Rattle.literal_areas.specs.declared.blocks.BlockUse.TheVariants.{Live, Retired}
use Rattle.literal_areas.specs.Blocks.{first_of}
use Rattle.literal_areas.specs.Owned.{AreOf, IsUnpublished}
use Rattle.literal_areas.specs.Released.{MayRelease}
use Rattle.literal_areas.proofs.Uses.{use_there}
use Rattle.term_table.specs.Laws as terms
use Rattle.term_table.specs.Tables.{IsTableOf, Terms}
use Rattle.staging.specs.declared.tables.Tables.{Tables}
use Rattle.staging.specs.declared.stage.Stage.{Stage}
use Rattle.staging.specs.declared.stage.Stage.TheVariants.{Untouched, Placed, Exported, Patching}
use Rattle.staging.specs.Placed.{IsAreaOf, pool_of}
use Rattle.staging.specs.Released.{StandStill}
use Rattle.staging.specs.Stages.{HavePlaced, StageStands}
use Rattle.staging.specs.Standing.{StandFor}
use Rattle.staging.specs.Upcoming.{IsUpcoming}
use Rattle.staging.specs.Whose.{AreTablesOf}
use Rattle.staging.proofs.Frames.{TellsAlike, at_fits, stands_alike, unpublished_written}
use Rattle.staging.proofs.IndexStores.{third_behind}
use Rattle.staging.proofs.NextAreas.{StandsAs, live_area, retired_area, stands_as}
use Rattle.staging.proofs.Patched.{patch_leaves}
use Rattle.staging.proofs.SetNames.{index_place, table_place}
use Rattle.staging.proofs.TableStores.{block_above, block_below, owned_words}

-- ---- the words

-- a decision stands behind the code indices, and in front of the term tables
pub decision_place_is : (bp block function : ℕ) → bp < 2 → IsForInstances block → function < 16 → (4565 ≤ breakpoint_place bp block function) × (breakpoint_place bp block function < 6613)
decision_place_is bp block function low for few = (
  third_behind (3 + bp) (breakpoint_at block function) (omega arith),
  block_below (3 + bp) (breakpoint_at block function) (omega (arith, low)) (at_fits block function for few),
)

-- no other word was stored
pub record ClearsWords (old new : WriterView) : Type 0 where
  pub long : length new.words ≡ length old.words
  pub front : (place : ℕ) → place < 4565 → word_at new.words place ≡ word_at old.words place
  pub behind : (place : ℕ) → 6613 ≤ place → word_at new.words place ≡ word_at old.words place
  pub same : new ≡ record old { words = new.words }

pub clears_words : (block : ℕ) (old new : WriterView) → IsForInstances block → HasCleared block old new → ClearsWords old new
clears_words block old new for cleared = record {
  long = cleared.long;
  front = λ place low. cleared.others place (λ bp function fits few same. let there = (decision_place_is bp block function fits for few).0 in omega (arith, low, same, there));
  behind = λ place high. cleared.others place (λ bp function fits few same. let there = (decision_place_is bp block function fits for few).1 in omega (arith, high, same, there));
  same = cleared.view;
}

-- ---- the decisions

module _ (block : ℕ) (old : WriterView) (words : List ℕ) (for : IsForInstances block) (fit : (k : KeptArea) → Among old.kept k → 9 ≤ k.area.block) (uncalled : IsUncalled old block) (cleared : HasCleared block old (record old { words = words })) where
  decision : (other function : ℕ) → IsForInstances other → function < 16 → KeepsDecision old (record old { words = words }) other function
  decision other function also few =
      elim (cases_eq other block) as (λ _. KeepsDecision old (record old { words = words }) other function) [
        | inl same ↦ inr (
          (λ a among is. uncalled a among (is ∙ same)),
          λ bp fits. ap (λ (b : ℕ). word_at words (breakpoint_place bp b function)) same ∙ cleared.cleared bp function fits few,
        )
        | inr differ ↦ inl (λ bp fits. cleared.others (breakpoint_place bp other function) (λ n f low less same. differ (decisions_apart bp other function n block f fits also few low for less same).1))
      ]

  clears_here : LeavesDecisions old (record old { words = words })
  clears_here = record {
    long = cleared.long;
    published = refl;
    decisions = decision;
    entries = λ k function among has.
        let high = block_above k.area.block (image_entry_at function) (fit k among) in
        cleared.others (block_place k.area.block (image_entry_at function)) (λ bp f low few same. let there = (decision_place_is bp block f low for few).1 in omega (arith, high, same, there));
    kept = λ k among. among;
    dropped = λ k among. inl among;
    more = λ pair among. among;
    rising = omega (arith);
  }

pub clears_leave : (block : ℕ) (old new : WriterView) → IsForInstances block → ((k : KeptArea) → Among old.kept k → 9 ≤ k.area.block) → IsUncalled old block → HasCleared block old new → LeavesDecisions old new
clears_leave block old new for fit uncalled cleared =
    subst (LeavesDecisions old) (sym cleared.view) (clears_here block old new.words for fit uncalled (subst (HasCleared block old) cleared.view cleared))

-- ---- the areas

pub areas_behind : (pools : Areas) (w : WriterView) → AreOf pools w → AreasAreBehind w
areas_behind pools w own k among = by (stands_as pools k.area (own.kept k among))
  where
    by : StandsAs pools k.area → 9 ≤ k.area.block
    by (live_area is) = use_there pools k.area.block (Live k.area.serial) is
    by (retired_area since is) = use_there pools k.area.block (Retired k.area.serial since) is

-- the block is one for instances, as an area is retired in it
pub retired_block : (pools : Areas) (w : WriterView) (area : AreaRef) → MayRelease pools w area → area.block < 64 → IsForInstances area.block
retired_block pools w area may last = record { first = use_there pools area.block (Retired area.serial may.since) may.retired; last = last }

clear_looks : (w : WriterView) (words : List ℕ) (serial : ℕ) → IsClear w Both serial → IsClear (record w { words = words }) Both serial
clear_looks w words serial is =
    record { generation = is.generation; over = record { need = is.over.need; kept = is.over.kept; reached = is.over.reached; published = is.over.published; at = is.over.at; gone = is.over.gone }; looked = is.looked }

may_words : (pools : Areas) (w : WriterView) (words : List ℕ) (area : AreaRef) → MayRelease pools w area → MayRelease pools (record w { words = words }) area
may_words pools w words area may = record {
  since = may.since;
  retired = may.retired;
  published = may.published;
  pair = may.pair;
  taken = may.taken;
  later = may.later;
  reached = may.reached;
  clear = clear_looks w words area.serial may.clear;
}

-- the area may be released still
pub may_still : (pools : Areas) (old new : WriterView) (area : AreaRef) → ClearsWords old new → MayRelease pools old area → MayRelease pools new area
may_still pools old new area clears may = subst (λ (w : WriterView). MayRelease pools w area) (sym clears.same) (may_words pools old new.words area may)

-- ---- what the words stand for

tells_cleared : (old new : WriterView) → ClearsWords old new → TellsAlike old new
tells_cleared old new clears = record {
  retire = λ block few. clears.front (retire_place block) (omega (arith, few));
  doom = λ block few. clears.front (doom_place block) (omega (arith, few));
  same = clears.same;
}

index_cleared : (old new : WriterView) → ClearsWords old new → indices.HasStoredElsewhere old new
index_cleared old new clears = record {
  long = clears.long;
  others = λ block entry low few. clears.front (block_place block entry) (let here = index_place block entry low in omega (arith, here, low, few));
  same = clears.same;
}

terms_cleared : (old new : WriterView) → ClearsWords old new → terms.HasStoredElsewhere old new
terms_cleared old new clears = record {
  long = clears.long;
  others = λ table at fits few. clears.behind (block_place (5 + table) at) (let here = table_place table at fits in omega (arith, here));
  same = clears.same;
}

first_high : (i : Incoming) (block : ℕ) → first_of (pool_of i) ≤ block → 9 ≤ block
first_high (instance m) block first = first
first_high (stored term) block first = omega (arith, first)

area_cleared : (old new : WriterView) (i : Incoming) (a : AreaRef) → ClearsWords old new → IsAreaOf old i a → IsAreaOf new i a
area_cleared old new i a clears was = record {
  small = was.small;
  first = was.first;
  last = was.last;
  room = was.room;
  unpublished = subst (λ (w : WriterView). IsUnpublished w a) (sym clears.same) (unpublished_written old new.words a was.unpublished);
  written = λ at value is. clears.behind (block_place a.block at) (let high = block_above a.block at (first_high i a.block was.first) in omega (arith, high)) ∙ was.written at value is;
}

-- the tables are the writer's still
module _ (table : TableId) (opening : Opening) (old new : Tables) (area : AreaRef) (by_index : indices.KeptByWrites) (by_terms : terms.KeptByWrites) (own : AreTablesOf table opening old) (index : new.index ≡ old.index) (terms_are : new.terms ≡ old.terms) (pools : new.pools ≡ old.pools) (patch : new.patch ≡ old.patch)
    (for : IsForInstances area.block) (uncalled : IsUncalled (written_by old.writer) area.block) (cleared : HasCleared area.block (written_by old.writer) (written_by new.writer)) where
  abbrev before : WriterView
  before = written_by old.writer

  abbrev after : WriterView
  after = written_by new.writer

  pub clears : ClearsWords before after
  clears = clears_words area.block before after for cleared

  pub tables_cleared : IsWriterOf table opening new.writer → AreTablesOf table opening new
  tables_cleared token = record {
    token = token;
    index = subst (λ x. IsIndexOf x after) (sym index) ((by_index old.index before after (index_cleared before after clears) own.index).owned own.index);
    terms = subst (λ x. IsTableOf x after) (sym terms_are) ((by_terms old.terms before after (terms_cleared before after clears) own.terms).owned own.terms);
    pools = subst (λ (x : Areas). AreOf x after) (sym pools) (subst (AreOf old.pools) (sym clears.same) (owned_words old.pools before after.words clears.long own.pools));
    patch = patch_leaves old.patch new.patch before after patch (clears_leave area.block before after for own.index.areas uncalled cleared) own.patch;
  }

  module _ (names : List Mfa) where
    stands_now : (s : ServerState) (rest : Areas) → StandFor names s rest before → StandFor names s rest after
    stands_now s rest stands = stands_alike names s rest before after (tells_cleared before after clears) stands

    stands_here : (s : ServerState) → StandFor names s old.pools before → StandFor names s new.pools after
    stands_here s stands = subst (λ (x : Areas). StandFor names s x after) (sym pools) (stands_now s old.pools stands)

    placed_now : (s : ServerState) (change : Change) (taken : List AreaRef) → HavePlaced names s change old taken → HavePlaced names s change new taken
    placed_now s change taken had = record {
      rest = had.rest;
      stands = stands_now s had.rest had.stands;
      placed = record {
        few = had.placed.few;
        taken_are = had.placed.taken_are;
        pools_are = pools ∙ had.placed.pools_are;
        each = λ place i a comes at. area_cleared before after i a clears (had.placed.each place i a comes at);
      };
      terms = ap (λ (x : Terms). x.staged) terms_are ∙ had.terms;
      patch = patch ∙ had.patch;
    }

    stage_now : (s : ServerState) (change : Change) (stage : Stage) → StageStands names s change old stage → StageStands names s change new stage
    stage_now s change Untouched had = record { stands = stands_here s had.stands; staged = record { index = index ∙ had.staged.index; terms = ap (λ (x : Terms). x.staged) terms_are ∙ had.staged.terms; patch = patch ∙ had.staged.patch } }
    stage_now s change (Placed areas) had = (placed_now s change areas.items had.0, index ∙ had.1)
    stage_now s change (Exported areas) had = record {
      code = had.code;
      placed = placed_now s change areas.items had.placed;
      whole = had.whole;
      exported = λ p up.
          subst (λ x. Stages x p after) (sym index)
          ((by_index old.index before after (index_cleared before after clears) own.index).staged p (had.exported p (subst (λ (x : Areas). IsUpcoming names (change_made s change).state x p) pools up)));
    }
    stage_now s change Patching had = record { stands = stands_here s had.stands; index = index ∙ had.index; terms = ap (λ (x : Terms). x.staged) terms_are ∙ had.terms; patch = had.patch; is = patch ∙ had.is; of = had.of; before = had.before }

    pub stand_cleared : StandStill names old new
    stand_cleared = record {
      rest = λ s had. record { stands = stands_here s had.stands; staged = record { index = index ∙ had.staged.index; terms = ap (λ (x : Terms). x.staged) terms_are ∙ had.staged.terms; patch = patch ∙ had.staged.patch } };
      stages = stage_now;
      settling = λ s had. record { stands = stands_here s had.stands; index = index ∙ had.index; terms = ap (λ (x : Terms). x.staged) terms_are ∙ had.terms; patch = had.patch; is = patch ∙ had.is; behind = had.behind };
    }

-- where nothing is cleared, all is as it was
pub stand_same : (names : List Mfa) (t : Tables) → StandStill names t t
stand_same names t = record { rest = λ s had. had; stages = λ s change stage had. had; settling = λ s had. had }
