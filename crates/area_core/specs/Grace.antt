-- What readers may rely on: a word of a block that a seat may read stays as it is, but for entry words; and once the
-- counter has reached what a generation needs, blocks and areas of earlier generations alone may be used again.
-- Source: Erlang/OTP erts internal documentation, ThreadProgress and CodeLoading; the words are this project's own.
use Rattle.std.specs.Prelude.{◌≡◌, ◌≢◌, ℕ, ◌≤◌, Bool, false, ◌⊎◌, Some, slice_get, IsTrue}
use Rattle.prgr_core.specs.Machine.{machine_of}
use Rattle.term_core.specs.declared.area.CodeRef.{CodeRef}
use Rattle.area_core.specs.declared.map.WordKind.TheVariants.{InBlock}
use Rattle.area_core.specs.declared.event.SeatName.{SeatName}
use Rattle.area_core.specs.declared.event.AreaEvent.{AreaEvent}
use Rattle.area_core.specs.declared.event.AreaEvent.TheVariants.{StoreWord, StoreEntry}
use Rattle.area_core.specs.declared.table.Published.{Published}
use Rattle.area_core.specs.declared.table.KeptArea.{KeptArea}
use Rattle.area_core.specs.declared.table.Table.{Table}
use Rattle.area_core.specs.Map.{word_at, slot_place, retire_place, block_place, image_entry_at, kind_at}
use Rattle.area_core.specs.Generations.{is_used, anchor_names_area}
use Rattle.area_core.specs.Blocks.{Among, IsAnchor}
use Rattle.area_core.specs.Readers.{MayRead, reads_in_block}
use Rattle.area_core.specs.Stores.{with_word, is_retired_in}
use Rattle.area_core.specs.Step.{after, IsReadable, IsSound}
use Rattle.area_core.specs.Enabled.{with_retire}

-- ---- what is read stays

-- the event stores this word as the entry word of a function
abbrev pub IsEntryStore : AreaEvent → ℕ → Type 0
IsEntryStore event word = (at : CodeRef) × (on : Bool) × (event ≡ StoreEntry at on) × (word ≡ block_place at.area.block (image_entry_at at.function))

-- no event changes a word of a block that a seat may read, unless it stores an entry word
abbrev pub KeepsReadWords : Type 0
KeepsReadWords = (s t : Table) (event : AreaEvent) (seat : SeatName) (word block at : ℕ) → IsSound s → kind_at word ≡ InBlock block at → MayRead s seat word → after s event ≡ Some t → IsEntryStore event word ⊎ (word_at t.words word ≡ word_at s.words word)

-- ---- grace

-- generation n was retired with a need that the counter has reached
abbrev pub IsReached : Table → ℕ → Type 0
IsReached s n = (need : ℕ) × (machine_of s.progress).WasRetired n need × (need ≤ s.progress.counter)

-- then no thread may read an earlier one
abbrev pub EndsEarlier : Type 0
EndsEarlier = (s : Table) (n : ℕ) → IsSound s → IsReached s n → (g : ℕ) → IsReadable s g → n ≤ g

-- a word that no generation from n on reads, in a block without a kept area, may then become any value
abbrev pub FreesWords : Type 0
FreesWords = (s : Table) (n word value block at : ℕ) → IsSound s → IsReached s n → kind_at word ≡ InBlock block at → ((g : ℕ) (p : Published) → n ≤ g → slice_get s.published g ≡ Some p → reads_in_block p block at ≡ false) → ((k : KeptArea) → Among s.kept k → k.area.block ≢ block) → after s (StoreWord word value) ≡ Some (with_word s word value)

-- no anchor of a slot names the area
abbrev pub IsUnnamed : Table → ℕ → Type 0
IsUnnamed s serial = (process anchor : ℕ) → IsAnchor process anchor → anchor_names_area (word_at s.words (slot_place process anchor)) serial ≡ false

-- an area that the newest generation has retired, that none from n on uses and no slot names, may then be released
abbrev pub FreesAreas : Type 0
FreesAreas = (s : Table) (n : ℕ) (k : KeptArea) → IsSound s → IsReached s n → Among s.kept k → IsTrue (is_retired_in (slice_get s.published s.progress.generation) k.area.serial) → ((g : ℕ) (p : Published) → n ≤ g → slice_get s.published g ≡ Some p → is_used p k.area.serial ≡ false) → IsUnnamed s k.area.serial → after s (StoreWord (retire_place k.area.block) 0) ≡ Some (with_retire s (retire_place k.area.block) k.area.block 0)
