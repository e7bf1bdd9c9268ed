-- What a staged change leaves, and why none is staged.
use Rattle.std.specs.Prelude.{◌≡◌, ◌≢◌, ℕ, ◌+◌, ◌<◌, ◌≤◌, Some, length, slice_index}
use Rattle.area_core.specs.declared.map.TheConstants.{TABLE_WORDS, TERM_TABLES, AREAS_START, BUCKETS, BIG_WORDS}
use Rattle.area_core.specs.declared.table.KeptArea.{KeptArea}
use Rattle.area_core.specs.Map.{word_at, term_place}
use Rattle.area_core.specs.Blocks.{Among}
use Rattle.area_core.specs.Terms.{found_in}
use Rattle.shared_words.specs.declared.view.WriterView.{WriterView}
use Rattle.shared_words.specs.Publishing.{EachMayBeRead}
use Rattle.progress_words.specs.declared.answers.NotYet.{NotYet}
use Rattle.progress_words.specs.Needs.{HasLoadedCounter}
use Rattle.term_table.specs.declared.buckets.Buckets.{Buckets}
use Rattle.term_table.specs.declared.change.Change.{Change}
use Rattle.term_table.specs.Keys.{key_of, change_value}
use Rattle.term_table.specs.Built.{held_in, words_of, found_after, key_count}
use Rattle.term_table.specs.Tables.{Terms, active_table, staging_table, words_in}

-- ---- the words of a table

-- so many words of the table were loaded
pub record HasLoaded (table count : ℕ) (w : WriterView) (loaded : Buckets) : Type 0 where
  pub whole : length loaded.words ≡ BIG_WORDS
  pub words : (at : ℕ) → at < count → words_of loaded at ≡ words_in w.words table at

-- no generation that may be read has the table
pub record IsFreeTable (table : ℕ) (w : WriterView) : Type 0 where
  pub all : length w.words ≡ TABLE_WORDS
  pub fits : table < TERM_TABLES
  pub areas : (k : KeptArea) → Among w.kept k → AREAS_START ≤ k.area.block
  pub unread : EachMayBeRead w (λ g p. p.root.term ≢ table)

-- so many words of the table were stored, and no other word
pub record HasStored (table count : ℕ) (built : Buckets) (old new : WriterView) : Type 0 where
  pub long : length new.words ≡ length old.words
  pub words : (at : ℕ) → at < count → words_in new.words table at ≡ words_of built at
  pub others : (place : ℕ) → ((at : ℕ) → at < count → place ≢ term_place table at) → word_at new.words place ≡ word_at old.words place
  pub same : new ≡ record old { words = new.words }

-- ---- a change

-- the staging table finds what the active one does but for the change, which is staged; no other word is changed
pub record HasStaged (change : Change) (t u : Terms) (old new : WriterView) : Type 0 where
  pub table : u ≡ record { staged = Some (staging_table old); needs = t.needs }
  pub found : (key : ℕ) → found_in (words_in new.words (staging_table old)) key ≡ found_after change (found_in (words_in old.words (active_table old))) key
  pub counted : held_in (words_in new.words (staging_table old)) BUCKETS + key_count (found_in (words_in old.words (active_table old)) (key_of change)) ≡ held_in (words_in old.words (active_table old)) BUCKETS + key_count (change_value change)
  pub others : (place : ℕ) → ((at : ℕ) → at < BIG_WORDS → place ≢ term_place (staging_table old) at) → word_at new.words place ≡ word_at old.words place
  pub waited : WriterView
  pub loaded : HasLoadedCounter old waited
  pub enough : slice_index t.needs (staging_table old) ≤ waited.counter
  pub same : new ≡ record waited { words = new.words }

-- the counter that was loaded is below the value of the staging table
pub record IsWaiting (t : Terms) (old new : WriterView) (answer : NotYet) : Type 0 where
  pub asked : answer.need ≡ slice_index t.needs (staging_table old)
  pub loaded : HasLoadedCounter old new
  pub current : answer.current ≡ new.counter
  pub below : answer.current < answer.need
