-- Stores into code indices alone leave what the words tell of areas, and the areas that are placed.
use Rattle.std.proofs.Common.{◌≡◌, ℕ, ◌<◌, ◌≤◌, inl, inr, List, sym, ap, subst, ◌∙◌, arith}
use Rattle.std.proofs.lemmas.Bool.{cases_lt, lt-ltb, le-ltb}
use Rattle.term_core.specs.declared.area.AreaRef.{AreaRef}
use Rattle.term_core.specs.declared.atom.Mfa.{Mfa}
use Rattle.area_core.specs.Map.{block_place, doom_place, retire_place}
use Rattle.shared_words.specs.declared.view.WriterView.{WriterView}
use Rattle.progress_words.specs.Tokens.{written_by}
use Rattle.server_core.specs.declared.change.Change.{Change}
use Rattle.server_core.specs.ServerState.{ServerState}
use Rattle.literal_areas.specs.Owned.{IsUnpublished}
use Rattle.code_index.specs.Laws.{IsElsewhere}
use Rattle.code_index.specs.Copied.{HasCopied}
use Rattle.staging.specs.declared.tables.Tables.{Tables}
use Rattle.change_laws.specs.Changes.{Incoming, instance, stored}
use Rattle.staging.specs.Placed.{IsAreaOf, pool_of}
use Rattle.staging.specs.Stages.{HavePlaced}
use Rattle.staging.specs.Whose.{StoresExports}
use Rattle.literal_areas.specs.Blocks.{first_of}
use Rattle.staging.proofs.Frames.{TellsAlike, block_behind, stands_alike, unpublished_written}

-- ---- places

index_below : (block entry : ℕ) → block < 3 → entry < 1024 → block_place block entry < 4565
index_below block entry low few = rw (lt-ltb block 64 (omega (arith, low))) (omega (arith, low, few))

-- what stands in front of all blocks is none of an index
pub front_elsewhere : (place : ℕ) → place < 1493 → IsElsewhere place
front_elsewhere place low block entry fits few same = let behind = block_behind block entry in omega (arith, low, same, behind)

-- nor is what stands behind the three indices
pub behind_elsewhere : (place : ℕ) → 4565 ≤ place → IsElsewhere place
behind_elsewhere place high block entry fits few same = let below = index_below block entry fits few in omega (arith, high, same, below)

-- a word of another block stands there
pub third_behind : (block at : ℕ) → 3 ≤ block → 4565 ≤ block_place block at
third_behind block at third =
    elim (cases_lt block 64) as (λ _. 4565 ≤ block_place block at) [
      | inl low ↦ rw (lt-ltb block 64 low) (omega (arith, third))
      | inr high ↦ rw (le-ltb block 64 high) (omega (arith, high))
    ]

-- ---- one store after another

pub copy_stored : (block : ℕ) (old new : WriterView) → block < 3 → HasCopied block 1024 old new → StoresExports old new
copy_stored block old new fits copied = record {
  others = λ place off. copied.others place (λ entry few. off block entry fits few);
  same = copied.same;
}

-- ---- what they leave

pub tells_exports : (old new : WriterView) → StoresExports old new → TellsAlike old new
tells_exports old new stores = record {
  retire = λ block few. stores.others (retire_place block) (front_elsewhere (retire_place block) (omega (arith, few)));
  doom = λ block few. stores.others (doom_place block) (front_elsewhere (doom_place block) (omega (arith, few)));
  same = stores.same;
}

first_high : (i : Incoming) (block : ℕ) → first_of (pool_of i) ≤ block → 3 ≤ block
first_high (instance m) block first = omega (arith, first)
first_high (stored term) block first = omega (arith, first)

area_still : (old new : WriterView) (i : Incoming) (a : AreaRef) → StoresExports old new → IsAreaOf old i a → IsAreaOf new i a
area_still old new i a stores was = record {
  small = was.small;
  first = was.first;
  last = was.last;
  room = was.room;
  unpublished = subst (λ (w : WriterView). IsUnpublished w a) (sym stores.same) (unpublished_written old new.words a was.unpublished);
  written = λ at value is. stores.others (block_place a.block at) (behind_elsewhere (block_place a.block at) (third_behind a.block at (first_high i a.block was.first))) ∙ was.written at value is;
}

-- the words stand for the state, and the areas beside it are placed still
pub placed_still : (names : List Mfa) (s : ServerState) (change : Change) (old new : Tables) (taken : List AreaRef) → new.pools ≡ old.pools → new.terms ≡ old.terms → new.patch ≡ old.patch → StoresExports (written_by old.writer) (written_by new.writer) → HavePlaced names s change old taken → HavePlaced names s change new taken
placed_still names s change old new taken pools terms patch stores had = record {
  rest = had.rest;
  stands = stands_alike names s had.rest (written_by old.writer) (written_by new.writer) (tells_exports (written_by old.writer) (written_by new.writer) stores) had.stands;
  placed = record {
    few = had.placed.few;
    taken_are = had.placed.taken_are;
    pools_are = pools ∙ had.placed.pools_are;
    each = λ place i a comes at. area_still (written_by old.writer) (written_by new.writer) i a stores (had.placed.each place i a comes at);
  };
  terms = ap (λ t. t.staged) terms ∙ had.terms;
  patch = patch ∙ had.patch;
}
