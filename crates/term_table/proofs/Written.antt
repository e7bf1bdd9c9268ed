-- The term tables stay those of their writer over stores of any number of words elsewhere.
use Rattle.std.proofs.Common.{◌≡◌, ℕ, ◌<◌, List, length, sym, subst, ◌∙◌, arith}
use Rattle.std.specs.Prelude.{Option, Some, None}
use Rattle.area_core.specs.declared.table.Published.{Published}
use Rattle.shared_words.specs.declared.view.WriterView.{WriterView}
use Rattle.progress_words.specs.Roots.{newest_of}
use Rattle.term_table.specs.Tables.{Terms, active_table, words_in, StagedFor, GoesWith, IsTableOf}
use Rattle.term_table.specs.Laws.{HasStoredElsewhere, KeepsTable}
use Rattle.term_table.proofs.TablePlaces.{behind_fits}
use Rattle.term_table.proofs.Alike.{counted_same, table_same, stands_same}

module _ (v : WriterView) (words : List ℕ) (long : length words ≡ length v.words) (others : (table at : ℕ) → table < 4 → at < 1024 → words_in words table at ≡ words_in v.words table at) where
  abbrev after : WriterView
  after = record v { words = words }

  same : (table : ℕ) → table < 4 → (at : ℕ) → at < 1024 → words_in v.words table at ≡ words_in words table at
  same table fits at few = sym (others table at fits few)

  goes_written : (o : Option ℕ) → GoesWith o v → GoesWith o after
  goes_written None goes = tt
  goes_written (Some table) goes =
      let fits : table < 4 = let is = goes.0 in let fits = behind_fits (active_table v) in omega (arith, is, fits) in
      (goes.0, table_same (words_in v.words table) (words_in words table) (same table fits) goes.1)

  staged_written : (o : Option ℕ) (p : Published) → GoesWith o v → StagedFor o p v → StagedFor o p after
  staged_written None p goes staged = staged
  staged_written (Some table) p goes staged =
      let fits : table < 4 = let is = goes.0 in let fits = behind_fits (active_table v) in omega (arith, is, fits) in
      stands_same (words_in v.words table) (words_in words table) (same table fits) p staged

  owned_written : (t : Terms) → IsTableOf t v → IsTableOf t after
  owned_written t own = record {
    all = long ∙ own.all;
    long = own.long;
    areas = own.areas;
    fits = own.fits;
    table = table_same (words_in v.words (active_table v)) (words_in words (active_table v)) (same (active_table v) own.fits) own.table;
    active = stands_same (words_in v.words (active_table v)) (words_in words (active_table v)) (same (active_table v) own.fits) (newest_of v) own.active;
    counted = counted_same (words_in v.words (active_table v)) (words_in words (active_table v)) (same (active_table v) own.fits) ∙ own.counted;
    past = λ table g p few differ at has. let past = own.past table g p few differ at has in record { generation = past.generation; taken = past.taken; before = past.before };
    staged = goes_written t.staged own.staged;
  }

  keeps_written : (t : Terms) → IsTableOf t v → KeepsTable t v after
  keeps_written t own = record {
    owned = owned_written t;
    staged = λ p staged. staged_written t.staged p own.staged staged;
  }

-- stores elsewhere
pub written_elsewhere : (t : Terms) (old new : WriterView) → HasStoredElsewhere old new → IsTableOf t old → KeepsTable t old new
written_elsewhere t old new stored own = subst (KeepsTable t old) (sym stored.same) (keeps_written old new.words stored.long stored.others t own)
