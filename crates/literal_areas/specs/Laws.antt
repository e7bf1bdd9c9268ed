-- What keeps the pools those of their writer besides the calls on them: the stores and loads of that writer.
use Rattle.std.specs.Prelude.{◌≡◌, ℕ}
use Rattle.area_core.specs.declared.table.Published.{Published}
use Rattle.shared_words.specs.declared.view.WriterView.{WriterView}
use Rattle.shared_words.specs.Notes.{with_note}
use Rattle.shared_words.specs.Publishing.{with_next, with_word}
use Rattle.progress_words.specs.Needs.{HasLoadedCounter}
use Rattle.literal_areas.specs.declared.areas.Areas.{Areas}
use Rattle.literal_areas.specs.Owned.{AreOf, IsListed}

-- a store of a word of any block
abbrev pub KeptByStores : Type 0
KeptByStores = (s : Areas) (w : WriterView) (word value : ℕ) → AreOf s w → AreOf s (with_word word value w)

-- the store of the root of a generation that may be published over the pools
abbrev pub KeptByRoots : Type 0
KeptByRoots = (s : Areas) (w : WriterView) (p : Published) → AreOf s w → IsListed s p → AreOf s (with_next p w)

-- a load of the counter
abbrev pub KeptByCounters : Type 0
KeptByCounters = (s : Areas) (old new : WriterView) → HasLoadedCounter old new → AreOf s old → AreOf s new

-- a look, which tells the writer of anchors and turn words alone, or a drop that it keeps besides
abbrev pub KeptByLooks : Type 0
KeptByLooks = (s : Areas) (old new : WriterView) → new ≡ record old { looks = new.looks; named = new.named } → AreOf s old → AreOf s new

-- the split of a note
abbrev pub KeptByNotes : Type 0
KeptByNotes = (s : Areas) (w : WriterView) (process : ℕ) → AreOf s w → AreOf s (with_note process w)
