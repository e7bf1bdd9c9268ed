-- What keeps the term tables those of their writer besides the calls on them, and what is staged in them.
use Rattle.std.specs.Prelude.{◌≡◌, ◌≢◌, ℕ, ◌<◌, ◌≤◌, ◌↔◌, length}
use Rattle.term_core.specs.declared.area.AreaRef.{AreaRef}
use Rattle.term_core.specs.declared.generation.KeyTerm.{KeyTerm}
use Rattle.term_core.specs.declared.generation.Holding.TheVariants as holdings
use Rattle.area_core.specs.declared.map.TheConstants.{TERM_TABLES, BIG_WORDS, BUCKETS, AREAS_START}
use Rattle.area_core.specs.declared.table.Published.{Published}
use Rattle.area_core.specs.declared.table.KeptArea.{KeptArea}
use Rattle.area_core.specs.Map.{term_place}
use Rattle.area_core.specs.Blocks.{Among}
use Rattle.area_core.specs.Roots.{fresh_areas}
use Rattle.area_core.specs.Terms.{TermsStand}
use Rattle.shared_words.specs.declared.view.WriterView.{WriterView}
use Rattle.shared_words.specs.Notes.{with_note}
use Rattle.shared_words.specs.Publishing.{with_next, with_word}
use Rattle.progress_words.specs.Needs.{HasLoadedCounter}
use Rattle.term_table.specs.Built.{held_in}
use Rattle.term_table.specs.Tables.{Terms, active_table, words_in, IsTableOf, Stages}

-- the word is none of a term table
abbrev pub IsElsewhere : ℕ → Type 0
IsElsewhere word = (table at : ℕ) → table < TERM_TABLES → at < BIG_WORDS → word ≢ term_place table at

-- the term tables are those of the writer as it was, and those as it is, and what is staged is staged still
pub record KeepsTable (t : Terms) (old new : WriterView) : Type 0 where
  pub owned : IsTableOf t old → IsTableOf t new
  pub staged : (p : Published) → Stages t p old → Stages t p new

-- a store of a word elsewhere
abbrev pub KeptByStores : Type 0
KeptByStores = (t : Terms) (w : WriterView) (word value : ℕ) → IsElsewhere word → IsTableOf t w → KeepsTable t w (with_word word value w)

-- words were stored that are none of a term table, and nothing else of what the writer knows has changed
pub record HasStoredElsewhere (old new : WriterView) : Type 0 where
  pub long : length new.words ≡ length old.words
  pub others : (table at : ℕ) → table < TERM_TABLES → at < BIG_WORDS → words_in new.words table at ≡ words_in old.words table at
  pub same : new ≡ record old { words = new.words }

-- stores of any number of words elsewhere
abbrev pub KeptByWrites : Type 0
KeptByWrites = (t : Terms) (old new : WriterView) → HasStoredElsewhere old new → IsTableOf t old → KeepsTable t old new

-- a generation over the same term table has just its keys
pub record KeepsKeys (w : WriterView) (p : Published) : Type 0 where
  pub table : p.root.term ≡ active_table w
  pub stands : TermsStand (words_in w.words p.root.term) p
  pub counted : held_in (words_in w.words p.root.term) BUCKETS ≡ length p.state.keys

-- the store of the root of such a generation
abbrev pub KeptByRoots : Type 0
KeptByRoots =
    (t : Terms) (w : WriterView) (p : Published) → KeepsKeys w p → ((k : KeptArea) → Among (fresh_areas w.kept p) k → AREAS_START ≤ k.area.block) → KeepsTable t w (with_next p w)

-- a load of the counter
abbrev pub KeptByCounters : Type 0
KeptByCounters = (t : Terms) (old new : WriterView) → HasLoadedCounter old new → KeepsTable t old new

-- the split of a note
abbrev pub KeptByNotes : Type 0
KeptByNotes = (t : Terms) (w : WriterView) (process : ℕ) → KeepsTable t w (with_note process w)

-- two generations have the same keys, and the areas of these in the same blocks
pub record HaveSameKeys (p q : Published) : Type 0 where
  pub same : (k : KeyTerm) → Among q.state.keys k ↔ Among p.state.keys k
  pub placed : (k : KeyTerm) (serial : ℕ) (a : AreaRef) → Among q.state.keys k → k.holding ≡ holdings.Area serial → Among p.areas a → a.serial ≡ serial → Among q.areas a

-- what is staged for a generation is staged for another that has the same keys
abbrev pub KeptByKeys : Type 0
KeptByKeys = (t : Terms) (w : WriterView) (p q : Published) → HaveSameKeys p q → Stages t p w → Stages t q w
