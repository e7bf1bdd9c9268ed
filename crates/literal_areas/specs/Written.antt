-- What a write leaves of the words: the block of the area begins with the words that were given, and no other word changed.
-- Source: this project's own map of the shared table.
use Rattle.std.specs.Prelude.{◌≡◌, ◌≢◌, ℕ, ◌<◌, false, List, Some, slice_get}
use Rattle.term_core.specs.declared.area.AreaRef.{AreaRef}
use Rattle.area_core.specs.declared.map.TheConstants.{BLOCKS}
use Rattle.area_core.specs.declared.table.KeptArea.{KeptArea}
use Rattle.area_core.specs.Map.{word_at, block_place, room_of}
use Rattle.area_core.specs.Generations.{is_doomed_area}
use Rattle.area_core.specs.Blocks.{Among}
use Rattle.shared_words.specs.declared.view.WriterView.{WriterView}
use Rattle.shared_words.specs.Publishing.{EachMayBeRead}

-- the first so many words of the block are those of the list, all other words of the table are as before, and so is what else
-- the writer knows
pub record HasWritten (block count : ℕ) (words : List ℕ) (old new : WriterView) : Type 0 where
  pub image : (at value : ℕ) → at < count → slice_get words at ≡ Some value → word_at new.words (block_place block at) ≡ value
  pub others : (place : ℕ) → ((at : ℕ) → at < count → place ≢ block_place block at) → word_at new.words place ≡ word_at old.words place
  pub same : new ≡ record old { words = new.words }

-- each other block keeps its words
abbrev pub KeepsOtherBlocks : ℕ → WriterView → WriterView → Type 0
KeepsOtherBlocks block old new =
    (other at : ℕ) → other ≢ block → other < BLOCKS → at < room_of other → word_at new.words (block_place other at) ≡ word_at old.words (block_place other at)

-- the area was published, and is not released yet
abbrev pub IsPublished : WriterView → AreaRef → Type 0
IsPublished w area = (k : KeptArea) × Among w.kept k × (k.area ≡ area)

-- no generation that may be read has doomed the area
abbrev pub IsUndoomed : WriterView → AreaRef → Type 0
IsUndoomed w area = EachMayBeRead w (λ g p. is_doomed_area p area.serial ≡ false)
