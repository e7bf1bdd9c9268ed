-- Of the four term tables one is active, and the one behind it, going round, is that in which a change is staged.
-- Source: this project's own.
use Rattle.std.specs.Prelude.{◌≡◌, ◌≢◌, ℕ, ◌+◌, ◌%◌, ◌<◌, ◌≤◌, List, [], ◌∷◌, length, Option, Some, None, slice_get, slice_index}
use Rattle.area_core.specs.declared.map.TheConstants.{TABLE_WORDS, TERM_TABLES, BUCKETS, AREAS_START}
use Rattle.area_core.specs.declared.table.Published.{Published}
use Rattle.area_core.specs.declared.table.KeptArea.{KeptArea}
use Rattle.area_core.specs.Map.{word_at, term_place}
use Rattle.area_core.specs.Blocks.{Among}
use Rattle.area_core.specs.Step.{opening_published}
use Rattle.area_core.specs.Terms.{TermsStand}
use Rattle.shared_words.specs.declared.view.WriterView.{WriterView}
use Rattle.progress_words.specs.Needs.{HasTaken}
use Rattle.progress_words.specs.Roots.{newest_of}
use Rattle.term_table.specs.Built.{IsTable, held_in}

-- in which table a change is staged, and for each table the value of the counter from which on nobody reads it: 0 where it was
-- never active
pub record Terms : Type 0 where
  pub staged : Option ℕ
  pub needs : List ℕ

-- ---- which table

-- the table of the newest generation
abbrev pub active_table : WriterView → ℕ
active_table w = (newest_of w).root.term

-- the table in which a change is staged
abbrev pub staging_table : WriterView → ℕ
staging_table w = (active_table w + 1) % TERM_TABLES

-- the words of a table
abbrev pub words_in : List ℕ → ℕ → ℕ → ℕ
words_in words table at = word_at words (term_place table at)

-- the table that is staged holds each key of this generation with its value, and finds no other
abbrev pub StagedFor : Option ℕ → Published → WriterView → Type 0
StagedFor None p w = ⊥
StagedFor (Some table) p w = TermsStand (words_in w.words table) p

-- so does what is staged in these tables
abbrev pub Stages : Terms → Published → WriterView → Type 0
Stages t p w = StagedFor t.staged p w

-- what is staged is in the staging table of the writer, and built anew
abbrev pub GoesWith : Option ℕ → WriterView → Type 0
GoesWith None w = Unit {0}
GoesWith (Some table) w = (table ≡ staging_table w) × IsTable (words_in w.words table)

-- ---- whose tables

-- once the value is reached, no generation before this one may be read, and those with the table are all before it
pub record IsPast (w : WriterView) (table need : ℕ) : Type 0 where
  pub generation : ℕ
  pub taken : HasTaken w generation need
  pub before : (g : ℕ) (p : Published) → slice_get w.published g ≡ Some p → p.root.term ≡ table → g < generation

-- the term tables are those of the writer who knows this
pub record IsTableOf (t : Terms) (w : WriterView) : Type 0 where
  -- the writer knows all words
  pub all : length w.words ≡ TABLE_WORDS
  -- there is a value for each table
  pub long : length t.needs ≡ TERM_TABLES
  -- areas do not stand in the blocks of tables
  pub areas : (k : KeptArea) → Among w.kept k → AREAS_START ≤ k.area.block
  -- the active table is one of the four, was built anew, and holds the keys of the newest generation, each in one bucket
  pub fits : active_table w < TERM_TABLES
  pub table : IsTable (words_in w.words (active_table w))
  pub active : TermsStand (words_in w.words (active_table w)) (newest_of w)
  pub counted : held_in (words_in w.words (active_table w)) BUCKETS ≡ length (newest_of w).state.keys
  -- each other table that was active is free once its value is reached
  pub past : (table g : ℕ) (p : Published) → table < TERM_TABLES → table ≢ active_table w → slice_get w.published g ≡ Some p → p.root.term ≡ table → IsPast w table (slice_index t.needs table)
  pub staged : GoesWith t.staged w

-- the writer has published nothing but the empty generation, keeps no area, and each word is 0
pub record IsAtFirst (w : WriterView) : Type 0 where
  pub all : length w.words ≡ TABLE_WORDS
  pub published : w.published ≡ opening_published ∷ []
  pub kept : w.kept ≡ []
  pub words : (place : ℕ) → word_at w.words place ≡ 0
