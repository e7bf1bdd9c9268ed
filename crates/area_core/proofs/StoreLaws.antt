-- The stores of single words keep a state sound.
use Rattle.std.proofs.Common.{◌≡◌, ℕ, Bool, ◌&&◌, length, Some, refl, subst}
use Rattle.std.specs.Prelude.{slice_get, nat_lt, nat_le}
use Rattle.std.proofs.lemmas.Bool.{and_parts, ltb-true, leb-true}
use Rattle.prgr_core.specs.Members.{is_value}
use Rattle.prgr_core.proofs.Parts.{and_then_some}
use Rattle.term_core.specs.declared.area.CodeRef.{CodeRef}
use Rattle.area_core.specs.declared.map.TheConstants.{PROCESSES, ANCHORS}
use Rattle.area_core.specs.declared.map.WordKind.{WordKind}
use Rattle.area_core.specs.declared.map.WordKind.TheVariants.{Machine, Slot, Retire, Doom, InBlock, Nowhere}
use Rattle.area_core.specs.declared.readers.Slots.TheVariants.{OfMember}
use Rattle.area_core.specs.declared.event.AreaEvent.TheVariants.{StoreWord, StoreEntry, StoreSlot}
use Rattle.area_core.specs.declared.table.Table.{Table}
use Rattle.area_core.specs.Map.{kind_at, slot_place, block_place, image_entry_at}
use Rattle.area_core.specs.Readers.{readable_generations, is_slot_of}
use Rattle.area_core.specs.Stores.{with_word, holds_in_block, may_store_in_block, may_be_retire, kept_after, may_be_doom, may_store_entry, entry_word, may_store_slot}
use Rattle.area_core.specs.Step.{after, word_stored, slot_stored_by, may_write_slot, IsSound}
use Rattle.area_core.proofs.Tests.{four_hold}
use Rattle.area_core.proofs.BlockStores.{block_stored}
use Rattle.area_core.proofs.EntryStores.{entry_stored_sound}
use Rattle.area_core.proofs.AreaStores.{doom_stored}
use Rattle.area_core.proofs.Releases.{retire_stored}
use Rattle.area_core.proofs.Anchors.{slot_stored_sound}
use Rattle.area_core.proofs.UnreadStores.{enabled}

-- a store of the writer
pub word_store_keeps : (s t : Table) (word value : ℕ) → IsSound s → after s (StoreWord word value) ≡ Some t → IsSound t
word_store_keeps s t word value sound e = by_kind (kind_at word) refl e
  where
    by_kind : (kind : WordKind) → kind_at word ≡ kind → word_stored s word value kind ≡ Some t → IsSound t
    by_kind (InBlock block at) is made =
        let stored = enabled (may_store_in_block s (readable_generations s.progress) block at value) (with_word s word value) t made in
        subst IsSound stored.1 (block_stored s sound word value block at is stored.0)
    by_kind (Retire block) is made =
        let stored = enabled (holds_in_block s.kept block (may_be_retire s (readable_generations s.progress) value)) (record (with_word s word value) { kept = kept_after s block value }) t made in
        subst IsSound stored.1 (retire_stored s sound word value block is stored.0)
    by_kind (Doom block) is made =
        let stored = enabled (holds_in_block s.kept block (may_be_doom s (readable_generations s.progress) value)) (with_word s word value) t made in
        subst IsSound stored.1 (doom_stored s sound word value block is stored.0)
    by_kind Machine is made = absurd (cc)
    by_kind Slot is made = absurd (cc)
    by_kind Nowhere is made = absurd (cc)

-- a store of an entry word
pub entry_store_keeps : (s t : Table) (at : CodeRef) (on : Bool) → IsSound s → after s (StoreEntry at on) ≡ Some t → IsSound t
entry_store_keeps s t at on sound e =
    let stored = enabled (may_store_entry s (readable_generations s.progress) at on) (with_word s (block_place at.area.block (image_entry_at at.function)) (entry_word on)) t e in
    subst IsSound stored.1 (entry_stored_sound s sound at on stored.0)

-- a store into a slot
pub slot_store_keeps : (s t : Table) (k process place value : ℕ) → IsSound s → after s (StoreSlot k process place value) ≡ Some t → IsSound t
slot_store_keeps s t k process place value sound e =
    let found = and_then_some (slot_stored_by s k process place value) (slice_get s.progress.members k) t e in
    let stored = enabled (may_write_slot s found.0 k process place && may_store_slot s process place value (slice_get s.published found.0.generation)) (with_word s (slot_place process place) value) t found.2 in
    let both = and_parts (may_write_slot s found.0 k process place) (may_store_slot s process place value (slice_get s.published found.0.generation)) stored.0 in
    let four = four_hold (is_value found.0.word) (nat_lt process PROCESSES) (is_slot_of (OfMember k (length s.progress.members)) process) (nat_le place ANCHORS) both.0 in
    subst IsSound stored.1 (slot_stored_sound s sound k process place value found.0 found.1 four.0 (ltb-true process PROCESSES four.1) (leb-true place ANCHORS four.3) both.1)
