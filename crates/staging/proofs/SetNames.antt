-- A store into the staging index leaves term tables and pools those of the writer.
use Rattle.std.proofs.Common.{◌≡◌, ℕ, ◌+◌, ◌*◌, ◌<◌, ◌≤◌, List, length, length-set, refl, sym, ap, subst, ◌∙◌, arith}
use Rattle.std.specs.Prelude.{slice_set}
use Rattle.std.proofs.lemmas.Bool.{lt-ltb}
use Rattle.atomic_table.specs.Seated.{TableId}
use Rattle.area_core.specs.declared.map.WordKind.TheVariants.{InBlock}
use Rattle.area_core.specs.declared.table.KeptArea.{KeptArea}
use Rattle.area_core.specs.Blocks.{Among}
use Rattle.area_core.specs.Map.{block_place, kind_at, term_place}
use Rattle.area_core.proofs.Frames.{big_room}
use Rattle.area_core.proofs.Places.{kind_block, word_there}
use Rattle.shared_words.specs.declared.opening.Opening.{Opening}
use Rattle.shared_words.specs.declared.view.WriterView.{WriterView}
use Rattle.shared_words.specs.Publishing.{kept_left, with_word}
use Rattle.progress_words.specs.Tokens.{IsWriterOf, written_by}
use Rattle.code_index.specs.declared.index.Staging.{Staging}
use Rattle.code_index.specs.declared.index.Staging.TheVariants.{Nothing, Staged, Committing}
use Rattle.code_index.specs.Staging.{IsIndexOf, block_of}
use Rattle.literal_areas.specs.declared.areas.Areas.{Areas}
use Rattle.literal_areas.specs.Laws as pools
use Rattle.literal_areas.specs.Owned.{AreOf}
use Rattle.term_table.specs.Laws as terms
use Rattle.term_table.specs.Tables.{IsTableOf}
use Rattle.staging.specs.declared.tables.Tables.{Tables}
use Rattle.staging.specs.Whose.{AreTablesOf, StoresExports}
use Rattle.staging.proofs.IndexStores.{behind_elsewhere, third_behind}
use Rattle.staging.proofs.Patched.{StoresBeside, exports_beside, patch_beside}

-- the index that is staged is one of the three
pub index_low : (x : Staging) (w : WriterView) → IsIndexOf x w → block_of x < 3
index_low Nothing w own = omega (arith)
index_low (Staged block) w own = let is = own.staged in omega (arith, is)
index_low (Committing block need) w own = let is = own.staged.0 in omega (arith, is)

pub index_place : (block entry : ℕ) → block < 3 → block_place block entry ≡ 1493 + block * 1024 + entry
index_place block entry low = rw (lt-ltb block 64 (omega (arith, low))) refl

pub table_place : (table at : ℕ) → table < 4 → term_place table at ≡ 1493 + (5 + table) * 1024 + at
table_place table at low = rw (lt-ltb (5 + table) 64 (omega (arith, low))) refl

pub index_no_table : (block entry : ℕ) → block < 3 → entry < 1024 → terms.IsElsewhere (block_place block entry)
index_no_table block entry low few table at fits in_table same =
    let here = index_place block entry low in let there = table_place table at fits in omega (arith, here, there, same, low, few)

-- the store into it is none of a decision, or of an entry word of a function
name_beside : (old new : WriterView) (block entry value : ℕ) → block < 3 → entry < 1024 → length old.words ≡ 83413 → ((k : KeptArea) → Among old.kept k → 9 ≤ k.area.block) → new ≡ with_word (block_place block entry) value old → StoresBeside old new
name_beside old new block entry value low few all areas stored =
    exports_beside old new (ap (λ (w : WriterView). length w.words) stored ∙ length-set old.words (block_place block entry) value) areas
    (subst (StoresExports old) (sym stored) (record {
      others = λ place off. word_there old.words (block_place block entry) value place (off block entry low few);
      same = λ i. record old { words = slice_set old.words (block_place block entry) value; kept = kept_left old value (kind_is i) };
    }))
  where
    kind_is : kind_at (block_place block entry) ≡ InBlock block entry
    kind_is = kind_block block entry (omega (arith, low)) (big_room block entry (omega (arith, low)) few)

pub tables_set : (table : TableId) (opening : Opening) (old new : Tables) (entry value : ℕ) → entry < 1024 → terms.KeptByStores → pools.KeptByStores → AreTablesOf table opening old → IsWriterOf table opening new.writer → IsIndexOf new.index (written_by new.writer)
    → written_by new.writer ≡ with_word (block_place (block_of old.index) entry) value (written_by old.writer) → new.terms ≡ old.terms → new.pools ≡ old.pools → new.patch ≡ old.patch → AreTablesOf table opening new
tables_set table opening old new entry value few by_terms by_pools was token index stored terms_are pools_are patch_is = record {
  token = token;
  index = index;
  terms = subst (λ t. IsTableOf t (written_by new.writer)) (sym terms_are) (subst (IsTableOf old.terms) (sym stored)
      ((by_terms old.terms (written_by old.writer) (block_place (block_of old.index) entry) value (index_no_table (block_of old.index) entry (index_low old.index (written_by old.writer) was.index) few) was.terms).owned was.terms));
  pools = subst (λ p. AreOf p (written_by new.writer)) (sym pools_are) (subst (AreOf old.pools) (sym stored) (by_pools old.pools (written_by old.writer) (block_place (block_of old.index) entry) value was.pools));
  patch = patch_beside old.patch new.patch (written_by old.writer) (written_by new.writer) patch_is (name_beside (written_by old.writer) (written_by new.writer) (block_of old.index) entry value (index_low old.index (written_by old.writer) was.index) few was.index.all was.index.areas stored) was.patch;
}

-- the start of staging stores no word of a term table either
pub tables_started : (table : TableId) (opening : Opening) (old new : Tables) → terms.KeptByWrites → AreTablesOf table opening old → IsWriterOf table opening new.writer → IsIndexOf new.index (written_by new.writer) → StoresExports (written_by old.writer) (written_by new.writer) → new.terms ≡ old.terms → new.pools ≡ old.pools → new.patch ≡ old.patch → AreTablesOf table opening new
tables_started table opening old new by_terms was token index stores terms_are pools_are patch_is = record {
  token = token;
  index = index;
  terms = subst (λ t. IsTableOf t (written_by new.writer)) (sym terms_are)
      ((by_terms old.terms (written_by old.writer) (written_by new.writer) (record {
        long = index.all ∙ sym was.index.all;
        others = λ table at fits few. stores.others (block_place (5 + table) at) (behind_elsewhere (block_place (5 + table) at) (third_behind (5 + table) at (omega arith)));
        same = stores.same;
      }) was.terms).owned was.terms);
  pools = subst (λ p. AreOf p (written_by new.writer)) (sym pools_are) (subst (AreOf old.pools) (sym stores.same) (pools_words old.pools (written_by old.writer) (written_by new.writer).words index.all was.pools));
  patch = patch_beside old.patch new.patch (written_by old.writer) (written_by new.writer) patch_is (exports_beside (written_by old.writer) (written_by new.writer) (index.all ∙ sym was.index.all) was.index.areas stores) was.patch;
}
  where
    pools_words : (s : Areas) (w : WriterView) (words : List ℕ) → length words ≡ 83413 → AreOf s w → AreOf s (record w { words = words })
    pools_words s w words all was = record {
      sound = was.sound;
      all = all;
      kept = was.kept;
      reached = was.reached;
      taken = was.taken;
      past = was.past;
      since = was.since;
    }
