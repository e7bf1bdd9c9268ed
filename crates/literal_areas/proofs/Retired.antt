-- The call that retires an area: its store may be made, and the pools stay those of the writer.
use Rattle.std.proofs.Common.{◌≡◌, ℕ, length, sym, ap, subst, ◌∙◌}
use Rattle.atomic_table.specs.Seated.{TableId}
use Rattle.term_core.specs.declared.area.AreaRef.{AreaRef}
use Rattle.area_core.specs.Map.{retire_place}
use Rattle.shared_words.specs.declared.opening.Opening.{Opening}
use Rattle.shared_words.specs.declared.seats.Writer as writers
use Rattle.shared_words.specs.declared.view.WriterView.{WriterView}
use Rattle.shared_words.specs.Publishing.{MayStoreWord, with_word}
use Rattle.progress_words.specs.Tokens.{written_by, IsWriterOf}
use Rattle.progress_words.proofs.Rooted.{some_published}
use Rattle.literal_areas.specs.declared.areas.Areas.{Areas}
use Rattle.literal_areas.specs.Blocks.{IsSound, IsLive, with_retired}
use Rattle.literal_areas.specs.Owned.{AreOf}
use Rattle.literal_areas.proofs.Serials.{sound_retired}
use Rattle.literal_areas.proofs.Stores.{may_retire, owned_retired, owned_stored}

-- the number of the next generation may be stored
pub may_retire_now : (table : TableId) (opening : Opening) (s : Areas) (old now : writers.Writer) (area : AreaRef) (word value : ℕ) → IsWriterOf table opening old → AreOf s (written_by old) → IsLive s area → written_by now ≡ written_by old → word ≡ retire_place area.block → value ≡ length (written_by old).published → MayStoreWord (written_by now) word value
may_retire_now table opening s old now area word value token own live same place next =
    subst (λ (z : WriterView × ℕ × ℕ). MayStoreWord z.0 z.1 z.2) (λ i. (sym same i, sym place i, sym next i)) (may_retire s (written_by old) own area live (some_published table opening old token))

pub sound_now : (old new : Areas) (area : AreaRef) (since : ℕ) → new ≡ with_retired area since old → IsLive old area → IsSound old → IsSound new
sound_now old new area since is live sound = subst IsSound (sym is) (sound_retired old sound area since live)

-- and the pools stay those of the writer
pub owned_now : (s new : Areas) (old now last : writers.Writer) (area : AreaRef) (word value : ℕ) → AreOf s (written_by old) → IsLive s area → written_by now ≡ written_by old → value ≡ length (written_by old).published → written_by last ≡ with_word word value (written_by now) → new ≡ with_retired area value s → AreOf new (written_by last)
owned_now s new old now last area word value own live same next stored is =
    let at : with_retired area (length (written_by old).published) s ≡ new = ap (λ (n : ℕ). with_retired area n s) (sym next) ∙ sym is in
    let told : with_word word value (written_by old) ≡ written_by last = ap (with_word word value) (sym same) ∙ sym stored in
    subst (λ (z : Areas × WriterView). AreOf z.0 z.1) (λ i. (at i, told i))
    (owned_stored (with_retired area (length (written_by old).published) s) (written_by old) word value (owned_retired s (written_by old) own area live))
