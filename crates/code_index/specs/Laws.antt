-- What keeps the code indices those of their writer besides the calls on them, and what is staged in them.
use Rattle.std.specs.Prelude.{◌≡◌, ◌≢◌, ℕ, ◌<◌, ◌≤◌, length}
use Rattle.area_core.specs.declared.map.TheConstants.{CODE_INDICES, EXPORT_ENTRIES, AREAS_START}
use Rattle.area_core.specs.declared.table.Published.{Published}
use Rattle.area_core.specs.declared.table.KeptArea.{KeptArea}
use Rattle.area_core.specs.Map.{block_place, word_at}
use Rattle.area_core.specs.Blocks.{Among}
use Rattle.area_core.specs.Roots.{fresh_areas}
use Rattle.shared_words.specs.declared.view.WriterView.{WriterView}
use Rattle.shared_words.specs.Notes.{with_note}
use Rattle.shared_words.specs.Publishing.{with_next, with_word}
use Rattle.progress_words.specs.Needs.{HasLoadedCounter}
use Rattle.code_index.specs.declared.index.Staging.{Staging}
use Rattle.code_index.specs.declared.index.Staging.TheVariants.{Nothing}
use Rattle.code_index.specs.Exports.{LeadTo, KeepsExport}
use Rattle.code_index.specs.Staging.{active_index, IsIndexOf, Stages}

-- the word is none of a code index
abbrev pub IsElsewhere : ℕ → Type 0
IsElsewhere word = (block entry : ℕ) → block < CODE_INDICES → entry < EXPORT_ENTRIES → word ≢ block_place block entry

-- the code indices are those of the writer as it was, and those as it is, and what is staged is staged still
pub record KeepsIndex (x : Staging) (old new : WriterView) : Type 0 where
  pub owned : IsIndexOf x old → IsIndexOf x new
  pub staged : (p : Published) → Stages x p old → Stages x p new

-- a store of a word elsewhere
abbrev pub KeptByStores : Type 0
KeptByStores = (x : Staging) (w : WriterView) (word value : ℕ) → IsElsewhere word → IsIndexOf x w → KeepsIndex x w (with_word word value w)

-- words were stored that are none of a code index, and nothing else of what the writer knows has changed
pub record HasStoredElsewhere (old new : WriterView) : Type 0 where
  pub long : length new.words ≡ length old.words
  pub others : (block entry : ℕ) → block < CODE_INDICES → entry < EXPORT_ENTRIES → word_at new.words (block_place block entry) ≡ word_at old.words (block_place block entry)
  pub same : new ≡ record old { words = new.words }

-- stores of any number of words elsewhere
abbrev pub KeptByWrites : Type 0
KeptByWrites = (x : Staging) (old new : WriterView) → HasStoredElsewhere old new → IsIndexOf x old → KeepsIndex x old new

-- the store of the root of a generation with the same code index, which leads each name to what it exports
abbrev pub KeptByRoots : Type 0
KeptByRoots =
    (w : WriterView) (p : Published) → p.root.code ≡ active_index w → LeadTo w.words p.root.code p → ((k : KeptArea) → Among (fresh_areas w.kept p) k → AREAS_START ≤ k.area.block) → IsIndexOf Nothing w → IsIndexOf Nothing (with_next p w)

-- a load of the counter
abbrev pub KeptByCounters : Type 0
KeptByCounters = (x : Staging) (old new : WriterView) → HasLoadedCounter old new → KeepsIndex x old new

-- the split of a note
abbrev pub KeptByNotes : Type 0
KeptByNotes = (x : Staging) (w : WriterView) (process : ℕ) → KeepsIndex x w (with_note process w)

-- what is staged for a generation is staged for another that leads each name to the same
abbrev pub KeptByExports : Type 0
KeptByExports = (x : Staging) (w : WriterView) (p q : Published) → ((entry : ℕ) → KeepsExport p q entry) → Stages x p w → Stages x q w
