-- The call that dooms an instance: its store may be made, and the pools stay those of the writer.
use Rattle.std.proofs.Common.{◌≡◌, ℕ, ◌<◌, length, sym, ap, subst, ◌∙◌}
use Rattle.term_core.specs.declared.area.AreaRef.{AreaRef}
use Rattle.area_core.specs.declared.map.TheConstants.{BIG_BLOCKS}
use Rattle.area_core.specs.Map.{doom_place}
use Rattle.shared_words.specs.declared.seats.Writer as writers
use Rattle.shared_words.specs.declared.view.WriterView.{WriterView}
use Rattle.shared_words.specs.Publishing.{MayStoreWord, with_word}
use Rattle.progress_words.specs.Tokens.{written_by}
use Rattle.literal_areas.specs.declared.areas.Areas.{Areas}
use Rattle.literal_areas.specs.Blocks.{IsLive}
use Rattle.literal_areas.specs.Owned.{AreOf}
use Rattle.literal_areas.specs.Written.{IsUndoomed}
use Rattle.literal_areas.proofs.Stores.{may_doom, owned_stored}

-- the number of the next generation may be stored
pub may_doom_now : (s : Areas) (old now : writers.Writer) (area : AreaRef) (word value : ℕ) → AreOf s (written_by old) → IsLive s area → IsUndoomed (written_by old) area → area.block < BIG_BLOCKS → written_by now ≡ written_by old → word ≡ doom_place area.block → value ≡ length (written_by old).published → MayStoreWord (written_by now) word value
may_doom_now s old now area word value own live undoomed big same place next =
    subst (λ (z : WriterView × ℕ × ℕ). MayStoreWord z.0 z.1 z.2) (λ i. (sym same i, sym place i, sym next i)) (may_doom s (written_by old) own area live undoomed big)

-- and the pools stay those of the writer
pub owned_now : (s : Areas) (old now last : writers.Writer) (word value : ℕ) → AreOf s (written_by old) → written_by now ≡ written_by old → written_by last ≡ with_word word value (written_by now) → AreOf s (written_by last)
owned_now s old now last word value own same stored =
    let told : with_word word value (written_by old) ≡ written_by last = ap (with_word word value) (sym same) ∙ sym stored in
    subst (AreOf s) told (owned_stored s (written_by old) word value own)
