-- What a look-up reads of a term table, and what it finds.
-- Source: this project's own.
use Rattle.std.specs.Prelude.{◌≡◌, ℕ, ◌/◌, ◌%◌, ◌<◌, ◌==◌, if◌then◌else◌, List, ◌++◌, length}
use Rattle.term_core.specs.declared.area.Found.{Found}
use Rattle.term_core.specs.declared.area.Found.TheVariants.{Word, Area}
use Rattle.area_core.specs.declared.map.TheConstants.{TERM_TABLES}
use Rattle.area_core.specs.Map.{term_place}
use Rattle.shared_words.specs.declared.view.BlockWord.{BlockWord}
use Rattle.shared_words.specs.declared.view.MemberView.{MemberView}
use Rattle.shared_words.specs.declared.view.View.TheVariants.{Member}
use Rattle.shared_words.specs.Publishing.{IsWordUnder, with_block_word}
use Rattle.progress_words.specs.Reports.{IsAwake}
use Rattle.shared_words.specs.Processes.{held_by_view}

-- what a word that stands under a key is for: an area, or an integer or atom
abbrev pub found_of : ℕ → Found
found_of word = if word % 16 == 5 then Area (record { serial = word / 8192; block = word / 16 % 512 }) else Word word

-- the member may read the table of the generation that it holds
pub record MayReadTable (table : ℕ) (m : MemberView) : Type 0 where
  pub awake : IsAwake m
  pub learnt : m.member.generation < length m.seen
  pub fits : table < TERM_TABLES
  pub table_is : table ≡ (held_by_view m).root.term

-- it has read this word of the table
pub record HasReadWord (table at found : ℕ) (old new : MemberView) : Type 0 where
  pub view : new ≡ with_block_word (term_place table at) found old
  pub tells : IsWordUnder (Member old) old.member.generation (held_by_view old) (term_place table at) found

-- it has read words of blocks, and nothing else of it is changed
pub record HasRead (old new : MemberView) : Type 0 where
  pub read : List BlockWord
  pub view : new ≡ record old { blocks = read ++ old.blocks }
