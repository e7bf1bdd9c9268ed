-- Stores into one term table, and loads of the counter, leave what the words tell of areas, and the areas that are placed.
use Rattle.std.proofs.Common.{◌≡◌, ◌≢◌, ℕ, ◌+◌, ◌<◌, ◌≤◌, inl, inr, List, length, sym, subst, ◌∙◌, arith}
use Rattle.std.proofs.lemmas.Bool.{cases_lt, lt-ltb, le-ltb}
use Rattle.term_core.specs.declared.area.AreaRef.{AreaRef}
use Rattle.term_core.specs.declared.atom.Mfa.{Mfa}
use Rattle.area_core.specs.declared.table.KeptArea.{KeptArea}
use Rattle.area_core.specs.Blocks.{Among}
use Rattle.area_core.specs.Map.{block_place, breakpoint_at, doom_place, image_entry_at, retire_place, term_place, word_at}
use Rattle.shared_words.specs.declared.view.WriterView.{WriterView}
use Rattle.progress_words.specs.Needs.{HasLoadedCounter}
use Rattle.server_core.specs.ServerState.{ServerState}
use Rattle.literal_areas.specs.declared.areas.Areas.{Areas}
use Rattle.literal_areas.specs.Blocks.{first_of}
use Rattle.literal_areas.specs.Owned.{AreOf, IsUnpublished}
use Rattle.code_index.specs.Laws as indices
use Rattle.change_laws.specs.Changes.{Incoming, instance, stored}
use Rattle.staging.specs.Placed.{ArePlaced, IsAreaOf, pool_of}
use Rattle.staging.specs.Standing.{StandFor}
use Rattle.staging.proofs.Counted.{placed_counted, stands_counted}
use Rattle.staging.proofs.Frames.{TellsAlike, at_fits, stands_alike, unpublished_written}
use Rattle.staging.proofs.Patched.{StoresBeside}
use Rattle.staging.proofs.SetNames.{table_place}

-- words of this term table were stored, and nothing else has changed
pub record StoresTable (table : ℕ) (old new : WriterView) : Type 0 where
  pub fits : table < 4
  pub long : length new.words ≡ length old.words
  pub others : (place : ℕ) → ((at : ℕ) → at < 1024 → place ≢ term_place table at) → word_at new.words place ≡ word_at old.words place
  pub same : new ≡ record old { words = new.words }

-- ---- places

-- words in front of the term tables, and behind them, are none of theirs
front : (table place : ℕ) → table < 4 → place < 6613 → (at : ℕ) → at < 1024 → place ≢ term_place table at
front table place fits low at few same = let there = table_place table at fits in omega (arith, low, same, there)

behind : (table place : ℕ) → table < 4 → 10709 ≤ place → (at : ℕ) → at < 1024 → place ≢ term_place table at
behind table place fits high at few same = let there = table_place table at fits in omega (arith, high, few, fits, same, there)

pub block_below : (block at : ℕ) → block < 5 → at < 1024 → block_place block at < 6613
block_below block at low few = rw (lt-ltb block 64 (omega (arith, low))) (omega (arith, low, few))

pub block_above : (block at : ℕ) → 9 ≤ block → 10709 ≤ block_place block at
block_above block at high =
    elim (cases_lt block 64) as (λ _. 10709 ≤ block_place block at) [
      | inl low ↦ rw (lt-ltb block 64 low) (omega (arith, high))
      | inr small ↦ rw (le-ltb block 64 small) (omega (arith, small))
    ]

-- ---- what they leave

pub tells_table : (table : ℕ) (old new : WriterView) → StoresTable table old new → TellsAlike old new
tells_table table old new stores = record {
  retire = λ block few. stores.others (retire_place block) (front table (retire_place block) stores.fits (omega (arith, few)));
  doom = λ block few. stores.others (doom_place block) (front table (doom_place block) stores.fits (omega (arith, few)));
  same = stores.same;
}

-- none is a decision, or the entry word of a function
pub table_beside : (table : ℕ) (old new : WriterView) → ((k : KeptArea) → Among old.kept k → 9 ≤ k.area.block) → StoresTable table old new → StoresBeside old new
table_beside table old new areas stores = record {
  long = stores.long;
  decisions = λ bp block function low for few.
      let at = breakpoint_at block function in
      stores.others (block_place (3 + bp) at) (front table (block_place (3 + bp) at) stores.fits (block_below (3 + bp) at (omega (arith, low)) (at_fits block function for few)));
  entries = λ k function among has.
      stores.others (block_place k.area.block (image_entry_at function)) (behind table (block_place k.area.block (image_entry_at function)) stores.fits (block_above k.area.block (image_entry_at function) (areas k among)));
  same = stores.same;
}

pub index_table : (table : ℕ) (old new : WriterView) → StoresTable table old new → indices.HasStoredElsewhere old new
index_table table old new stores = record {
  long = stores.long;
  others = λ block entry low few. stores.others (block_place block entry) (front table (block_place block entry) stores.fits (block_below block entry (omega (arith, low)) few));
  same = stores.same;
}

first_high : (i : Incoming) (block : ℕ) → first_of (pool_of i) ≤ block → 9 ≤ block
first_high (instance m) block first = first
first_high (stored term) block first = omega (arith, first)

area_still : (table : ℕ) (old new : WriterView) (i : Incoming) (a : AreaRef) → StoresTable table old new → IsAreaOf old i a → IsAreaOf new i a
area_still table old new i a stores was = record {
  small = was.small;
  first = was.first;
  last = was.last;
  room = was.room;
  unpublished = subst (λ (w : WriterView). IsUnpublished w a) (sym stores.same) (unpublished_written old new.words a was.unpublished);
  written = λ at value is. stores.others (block_place a.block at) (behind table (block_place a.block at) stores.fits (block_above a.block at (first_high i a.block was.first))) ∙ was.written at value is;
}

pub stands_table : (names : List Mfa) (s : ServerState) (pools : Areas) (table : ℕ) (old new : WriterView) → StoresTable table old new → StandFor names s pools old → StandFor names s pools new
stands_table names s pools table old new stores stands = stands_alike names s pools old new (tells_table table old new stores) stands

pub placed_table : (comes : List Incoming) (rest pools : Areas) (taken : List AreaRef) (table : ℕ) (old new : WriterView) → StoresTable table old new → ArePlaced comes rest pools old taken → ArePlaced comes rest pools new taken
placed_table comes rest pools taken table old new stores placed = record {
  few = placed.few;
  taken_are = placed.taken_are;
  pools_are = placed.pools_are;
  each = λ place i a come at. area_still table old new i a stores (placed.each place i a come at);
}

-- the pools are still those of the writer
pub owned_words : (pools : Areas) (w : WriterView) (words : List ℕ) → length words ≡ length w.words → AreOf pools w → AreOf pools (record w { words = words })
owned_words pools w words long own = record { sound = own.sound; all = long ∙ own.all; kept = own.kept; reached = own.reached; taken = own.taken; past = own.past; since = own.since }

pub owned_table : (pools : Areas) (table : ℕ) (old new : WriterView) → StoresTable table old new → AreOf pools old → AreOf pools new
owned_table pools table old new stores own = subst (AreOf pools) (sym stores.same) (owned_words pools old new.words stores.long own)

-- ---- a load of the counter

pub stands_loaded : (names : List Mfa) (s : ServerState) (pools : Areas) (old new : WriterView) → HasLoadedCounter old new → StandFor names s pools old → StandFor names s pools new
stands_loaded names s pools old new loaded stands = subst (StandFor names s pools) (sym loaded.view) (stands_counted _ loaded.counter old names s pools stands)

pub placed_loaded : (comes : List Incoming) (rest pools : Areas) (taken : List AreaRef) (old new : WriterView) → HasLoadedCounter old new → ArePlaced comes rest pools old taken → ArePlaced comes rest pools new taken
placed_loaded comes rest pools taken old new loaded placed = subst (λ (w : WriterView). ArePlaced comes rest pools w taken) (sym loaded.view) (placed_counted _ loaded.counter old comes rest pools taken placed)
