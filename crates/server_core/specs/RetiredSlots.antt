-- The retired areas as a sparse set whose order stays: slots in the order in which the areas were dropped, and of each serial the slot in which it stood last.
-- Source: P. Briggs, L. Torczon, An efficient representation for sparse sets. Theirs moves the last member into the place of one that goes; here that place is a gap.
use Rattle.std.specs.Prelude.{◌≡◌, ◌≢◌, ℕ, ◌<◌, ◌≤◌, ◌+◌, List, length, filter_map, false, Option, Some, None, option_and_then, slice_get}
use Rattle.server_core.specs.declared.retired.RetiredAreas.TheInside.{Inside}
use Rattle.server_core.specs.declared.slots.RetiredRoom.{RetiredRoom}
use Rattle.server_core.specs.declared.slots.SlotTable.{SlotTable}
use Rattle.server_core.specs.Rooms.{IsBlock}
use Rattle.server_core.specs.ServerState.{is_serial_in}

-- the serials that stand in slots, in their order
abbrev pub serials_in : List (Option ℕ) → List ℕ
serials_in slots = filter_map (λ slot. slot) slots

-- the serial that stands in a slot, if it is no gap
abbrev pub standing : List (Option ℕ) → ℕ → Option ℕ
standing slots slot = option_and_then (λ s. s) (slice_get slots slot)

-- of each serial that stands in a slot, the places have that slot
abbrev pub TellSlots : List (Option ℕ) → List ℕ → Type 0
TellSlots slots places = (slot serial : ℕ) → slice_get slots slot ≡ Some (Some serial) → slice_get places serial ≡ Some slot

-- the first slot from one on that is no gap, or the end
pub record IsNextFull (slots : List (Option ℕ)) (from next : ℕ) : Type 0 where
  pub behind : from ≤ next
  pub gaps : (slot : ℕ) → from ≤ slot → slot < next → slice_get slots slot ≡ Some None
  pub full : slice_get slots next ≢ Some None

-- what a table keeps: each serial stands in the slot that its place tells, so no serial stands twice
pub record IsSlotTable (t : SlotTable) : Type 0 where
  pub places : TellSlots t.slots.items t.places.items
  pub first : IsNextFull t.slots.items 0 t.first
  pub count : t.count ≡ length (serials_in t.slots.items)

-- the retired areas keep such a table
abbrev pub HasSlotTable : Inside → Type 0
HasSlotTable a = IsSlotTable a.table

-- two empty blocks: for so many serials and one more, and for the places of the serials below this one
pub record HasRetiredRoom (count below : ℕ) (room : RetiredRoom) : Type 0 where
  pub slots : IsBlock (count + 1) room.slots
  pub places : IsBlock below room.places

-- a serial that can come to these: it is not among them, and there is room
pub record CanRetire (serials : List ℕ) (serial : ℕ) (room : RetiredRoom) : Type 0 where
  pub fresh : is_serial_in serials serial ≡ false
  pub fits : HasRetiredRoom (length serials) (serial + 1) room
