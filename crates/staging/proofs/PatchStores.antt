-- The stores of a patch, and what the writer loads and takes to wait for, leave code indices, term tables, pools, and what the words tell of areas.
use Rattle.std.proofs.Common.{◌≡◌, ◌≢◌, ℕ, ◌+◌, ◌<◌, ◌≤◌, List, length, None, refl, sym, ap, subst, arith}
use Rattle.prgr_core.specs.declared.member.Retirement.{Retirement}
use Rattle.term_core.specs.declared.area.CodeRef.{CodeRef}
use Rattle.term_core.specs.declared.atom.Mfa.{Mfa}
use Rattle.area_core.specs.Blocks.{Among, IsForInstances}
use Rattle.area_core.specs.Map.{block_place, breakpoint_place, doom_place, image_entry_at, retire_place, word_at}
use Rattle.shared_words.specs.declared.view.WriterView.{WriterView}
use Rattle.shared_words.specs.Rule.{MayBeRead}
use Rattle.server_core.specs.ServerState.{ServerState}
use Rattle.breakpoints.specs.Patches.{HasPatched, entry_place}
use Rattle.code_index.specs.declared.index.Staging.TheVariants.{Nothing}
use Rattle.code_index.specs.Laws as indices
use Rattle.code_index.specs.Staging.{IsIndexOf}
use Rattle.literal_areas.specs.declared.areas.Areas.{Areas}
use Rattle.literal_areas.specs.Owned.{AreOf}
use Rattle.term_table.specs.Laws as terms
use Rattle.term_table.specs.Tables.{GoesWith, IsTableOf, Terms}
use Rattle.staging.specs.Standing.{StandFor}
use Rattle.staging.specs.Whose.{KeepsKnown}
use Rattle.staging.proofs.ClearedBlocks.{decision_place_is}
use Rattle.staging.proofs.Counted.{stands_counted, with_waits}
use Rattle.staging.proofs.Frames.{TellsAlike, stands_alike}
use Rattle.staging.proofs.SetNames.{index_place, table_place}
use Rattle.staging.proofs.TableStores.{block_above, owned_words}

-- ---- loads of the counter, and values that are taken

module _ (w : WriterView) (pairs : List Retirement) (counter : ℕ) (more : (pair : Retirement) → Among w.pairs pair → Among pairs pair) (rising : w.counter ≤ counter) where
  fewer_read : (g : ℕ) → MayBeRead (with_waits pairs counter w) g → MayBeRead w g
  fewer_read g may pair among need = may pair (more pair among) (omega (arith, rising, need))

  index_later : IsIndexOf Nothing w → IsIndexOf Nothing (with_waits pairs counter w)
  index_later own = record { all = own.all; areas = own.areas; fits = own.fits; active = own.active; free = λ g p may at. own.free g p (fewer_read g may) at; staged = tt }

  terms_later : (t : Terms) → t.staged ≡ None → IsTableOf t w → IsTableOf t (with_waits pairs counter w)
  terms_later t none own = record {
    all = own.all;
    long = own.long;
    areas = own.areas;
    fits = own.fits;
    table = own.table;
    active = own.active;
    counted = own.counted;
    past = λ table g p few differ at has. let past = own.past table g p few differ at has in record { generation = past.generation; taken = more _ past.taken; before = past.before };
    staged = subst (λ o. GoesWith o (with_waits pairs counter w)) (sym none) tt;
  }

  pools_later : (pools : Areas) → AreOf pools w → AreOf pools (with_waits pairs counter w)
  pools_later pools own = record {
    sound = own.sound;
    all = own.all;
    kept = own.kept;
    reached = λ g p may. own.reached g p (fewer_read g may);
    taken = own.taken;
    past = own.past;
    since = own.since;
  }

-- what else the writer has is as before, and it waits for what it waited for
pub record IsLater (old new : WriterView) : Type 0 where
  pub view : new ≡ record old { pairs = new.pairs; counter = new.counter }
  pub more : (pair : Retirement) → Among old.pairs pair → Among new.pairs pair
  pub longer : length old.pairs ≤ length new.pairs
  pub rising : old.counter ≤ new.counter

-- whose tables they are: nothing is staged in them
pub record AreIdle (t : Terms) (areas : Areas) (w : WriterView) : Type 0 where
  pub index : IsIndexOf Nothing w
  pub terms : IsTableOf t w
  pub unstaged : t.staged ≡ None
  pub pools : AreOf areas w

pub idle_later : (t : Terms) (pools : Areas) (old new : WriterView) → IsLater old new → AreIdle t pools old → AreIdle t pools new
idle_later t pools old new later own =
    subst (AreIdle t pools) (sym later.view)
    (record {
      index = index_later old new.pairs new.counter later.more later.rising own.index;
      terms = terms_later old new.pairs new.counter later.more later.rising t own.unstaged own.terms;
      unstaged = own.unstaged;
      pools = pools_later old new.pairs new.counter later.more later.rising pools own.pools;
    })

pub stands_later : (names : List Mfa) (s : ServerState) (pools : Areas) (old new : WriterView) → IsLater old new → StandFor names s pools old → StandFor names s pools new
stands_later names s pools old new later stands = subst (StandFor names s pools) (sym later.view) (stands_counted new.pairs new.counter old names s pools stands)

pub known_later : (old new : WriterView) → IsLater old new → KeepsKnown old new
known_later old new later = record { notes = ap (λ (w : WriterView). w.notes) later.view; looks = ap (λ (w : WriterView). w.looks) later.view; waits = later.more; longer = later.longer }

-- ---- the stores of a patch

-- words were stored, none in front of the decisions, and none of a term table
pub record StoresPatch (old new : WriterView) : Type 0 where
  pub long : length new.words ≡ length old.words
  pub front : (place : ℕ) → place < 4565 → word_at new.words place ≡ word_at old.words place
  pub tables : (place : ℕ) → 6613 ≤ place → place < 10709 → word_at new.words place ≡ word_at old.words place
  pub same : new ≡ record old { words = new.words }

stored_index : (old new : WriterView) → StoresPatch old new → indices.HasStoredElsewhere old new
stored_index old new stores = record {
  long = stores.long;
  others = λ block entry low few. stores.front (block_place block entry) (let here = index_place block entry low in omega (arith, here, low, few));
  same = stores.same;
}

stored_terms : (old new : WriterView) → StoresPatch old new → terms.HasStoredElsewhere old new
stored_terms old new stores = record {
  long = stores.long;
  others = λ table at fits few. let here = table_place table at fits in stores.tables (block_place (5 + table) at) (omega (arith, here)) (omega (arith, here, fits, few));
  same = stores.same;
}

pub idle_stored : indices.KeptByWrites → terms.KeptByWrites → (t : Terms) (pools : Areas) (old new : WriterView) → StoresPatch old new → AreIdle t pools old → AreIdle t pools new
idle_stored by_index by_terms t pools old new stores own = record {
  index = (by_index Nothing old new (stored_index old new stores) own.index).owned own.index;
  terms = (by_terms t old new (stored_terms old new stores) own.terms).owned own.terms;
  unstaged = own.unstaged;
  pools = subst (AreOf pools) (sym stores.same) (owned_words pools old new.words stores.long own.pools);
}

tells_stored : (old new : WriterView) → StoresPatch old new → TellsAlike old new
tells_stored old new stores = record {
  retire = λ block few. stores.front (retire_place block) (omega (arith, few));
  doom = λ block few. stores.front (doom_place block) (omega (arith, few));
  same = stores.same;
}

pub stands_stored : (names : List Mfa) (s : ServerState) (pools : Areas) (old new : WriterView) → StoresPatch old new → StandFor names s pools old → StandFor names s pools new
stands_stored names s pools old new stores stands = stands_alike names s pools old new (tells_stored old new stores) stands

-- ---- what a step of a patch leaves, as words that were stored, and what was loaded since

module _ (at : CodeRef) (old new : WriterView) (for : IsForInstances at.area.block) (few : at.function < 16) (patched : HasPatched at old new) where
  abbrev mid : WriterView
  mid = record old { words = new.words }

  off_decisions : (place : ℕ) → (place < 4565) × (place < 10709) → (bp : ℕ) → bp < 2 → place ≢ breakpoint_place bp at.area.block at.function
  off_decisions place low bp fits same = let front = low.0 in let there = (decision_place_is bp at.area.block at.function fits for few).0 in omega (arith, front, same, there)

  off_tables : (place : ℕ) → 6613 ≤ place → (bp : ℕ) → bp < 2 → place ≢ breakpoint_place bp at.area.block at.function
  off_tables place high bp fits same = let there = (decision_place_is bp at.area.block at.function fits for few).1 in omega (arith, high, same, there)

  off_entry : (place : ℕ) → place < 10709 → place ≢ entry_place at
  off_entry place low same = let first = for.first in let high = block_above at.area.block (image_entry_at at.function) (omega (arith, first)) in omega (arith, low, same, high)

  pub patch_stores : StoresPatch old mid
  patch_stores = record {
    long = patched.long;
    front = λ place low. let below : place < 10709 = omega (arith, low) in patched.others place (off_decisions place (low, below)) (off_entry place below);
    tables = λ place high low. patched.others place (off_tables place high) (off_entry place low);
    same = refl;
  }

  pub patch_later : IsLater mid new
  patch_later = record { view = patched.view; more = patched.more; longer = patched.longer; rising = patched.rising }
