-- The blocks in which areas stand, with what each is used for. An area has a serial, which tells it from all others, and a
-- block, where its words stand. Serials rise by one; one that is given back is dealt out again.
-- Source: Erlang/OTP erts internal documentation, CodeLoading, and the manual page of persistent_term; the blocks and the
-- serials are this project's own. Plain lists; the words stand in a table.
use Rattle.std.specs.Prelude.{◌≡◌, ℕ, ◌+◌, ◌-◌, ◌<◌, ◌≤◌, Bool, true, false, nat_lt, if◌then◌else◌, List, length, replicate, Option, Some, None, slice_get, slice_set, IsTrue}
use Rattle.std.specs.List.{list_any, list_all}
use Rattle.std.specs.Option.{option_and_then}
use Rattle.term_core.specs.declared.area.AreaRef.{AreaRef}
use Rattle.area_core.specs.declared.map.TheConstants.{AREAS_START, BIG_BLOCKS}
use Rattle.literal_areas.specs.declared.blocks.TheConstants.{INSTANCE_BLOCKS, TERM_BLOCKS}
use Rattle.literal_areas.specs.declared.blocks.Pool.{Pool}
use Rattle.literal_areas.specs.declared.blocks.Pool.TheVariants.{Big, Small}
use Rattle.literal_areas.specs.declared.blocks.BlockUse.{BlockUse}
use Rattle.literal_areas.specs.declared.blocks.BlockUse.TheVariants.{Free, Live, Retired}
use Rattle.literal_areas.specs.declared.areas.Areas.{Areas}
use Rattle.literal_areas.specs.declared.taking.Take.{Take}
use Rattle.literal_areas.specs.declared.taking.Take.TheVariants.{Area, AllLive, AwaitRelease}

-- ---- one block

-- it is used for nothing
abbrev pub is_free : BlockUse → Bool
is_free Free = true
is_free (Live serial) = false
is_free (Retired serial since) = false

-- it has a live area
abbrev pub is_live : BlockUse → Bool
is_live Free = false
is_live (Live serial) = true
is_live (Retired serial since) = false

-- it has a retired area
abbrev pub is_retired_block : BlockUse → Bool
is_retired_block Free = false
is_retired_block (Live serial) = false
is_retired_block (Retired serial since) = true

-- the serial of its area, if it has one
abbrev pub serial_of : BlockUse → Option ℕ
serial_of Free = None
serial_of (Live serial) = Some serial
serial_of (Retired serial since) = Some serial

-- ---- pools

-- the blocks of a pool, in the order of their numbers
abbrev pub blocks_of : Pool → Areas → List BlockUse
blocks_of Big s = s.big
blocks_of Small s = s.small

-- how many blocks a pool has
abbrev pub size_of : Pool → ℕ
size_of Big = INSTANCE_BLOCKS
size_of Small = TERM_BLOCKS

-- the number of its first block
abbrev pub first_of : Pool → ℕ
first_of Big = AREAS_START
first_of Small = BIG_BLOCKS

-- what the block of this number is used for, if it is one for areas
abbrev pub use_of : Areas → ℕ → Option BlockUse
use_of s block =
    if nat_lt block AREAS_START then None else if nat_lt block BIG_BLOCKS then slice_get s.big (block - AREAS_START) else slice_get s.small (block - BIG_BLOCKS)

-- the blocks where one has another use
abbrev pub with_use : ℕ → BlockUse → Areas → Areas
with_use block used s = record s {
  big = if nat_lt block BIG_BLOCKS then slice_set s.big (block - AREAS_START) used else s.big;
  small = if nat_lt block BIG_BLOCKS then s.small else slice_set s.small (block - BIG_BLOCKS) used;
}

-- the serial of the area in the block of this number, if it has one
abbrev pub serial_at : Areas → ℕ → Option ℕ
serial_at s block = option_and_then serial_of (use_of s block)

-- the area stands in its block, live or retired
abbrev pub Stands : Areas → AreaRef → Type 0
Stands s area = serial_at s area.block ≡ Some area.serial

-- the area is live: it was taken, and not retired since
abbrev pub IsLive : Areas → AreaRef → Type 0
IsLive s area = use_of s area.block ≡ Some (Live area.serial)

-- the pools have their blocks
pub record HasSizes (s : Areas) : Type 0 where
  pub big : length s.big ≡ INSTANCE_BLOCKS
  pub small : length s.small ≡ TERM_BLOCKS

-- what is so between any two calls
pub record IsSound (s : Areas) : Type 0 where
  pub sizes : HasSizes s
  -- serials begin at 1
  pub some : 0 < s.next
  pub first : (block serial : ℕ) → serial_at s block ≡ Some serial → 0 < serial
  -- each area was taken before the next one
  pub below : (block serial : ℕ) → serial_at s block ≡ Some serial → serial < s.next
  -- an area has one block
  pub apart : (a b serial : ℕ) → serial_at s a ≡ Some serial → serial_at s b ≡ Some serial → a ≡ b

-- all blocks are free, and no area was taken
abbrev pub opening_areas : Areas
opening_areas = record { next = 1; big = replicate INSTANCE_BLOCKS Free; small = replicate TERM_BLOCKS Free }

-- ---- an area is taken

-- all blocks of a pool are live
abbrev pub AreAllLive : List BlockUse → Type 0
AreAllLive blocks = IsTrue (list_all is_live blocks)

-- no block of a pool is free, and one is retired
pub record AwaitsRelease (blocks : List BlockUse) : Type 0 where
  pub full : list_any is_free blocks ≡ false
  pub some : IsTrue (list_any is_retired_block blocks)

-- the block is a free one of the pool
pub record IsFreeIn (pool : Pool) (s : Areas) (block : ℕ) : Type 0 where
  pub first : first_of pool ≤ block
  pub last : block < first_of pool + size_of pool
  pub free : use_of s block ≡ Some Free

-- the blocks once this area is taken
abbrev pub with_area : AreaRef → Areas → Areas
with_area area s = with_use area.block (Live area.serial) (record s { next = s.next + 1 })

-- the area has the next serial and a free block of the pool, and is live from now on
pub record HasTaken (pool : Pool) (area : AreaRef) (old new : Areas) : Type 0 where
  pub serial : area.serial ≡ old.next
  pub block : IsFreeIn pool old area.block
  pub after : new ≡ with_area area old

-- nothing is taken, and this is why
pub record IsRefused (Why : Type 0) (old new : Areas) : Type 0 where
  pub why : Why
  pub same : new ≡ old

-- what each answer says
abbrev pub HasAnswered : Pool → Areas → Areas → Take → Type 0
HasAnswered pool old new (Area area) = HasTaken pool area old new
HasAnswered pool old new AllLive = IsRefused (AreAllLive (blocks_of pool old)) old new
HasAnswered pool old new AwaitRelease = IsRefused (AwaitsRelease (blocks_of pool old)) old new

-- ---- an area is given back, retired, released

-- the area was the last one that was taken
pub record IsLast (s : Areas) (area : AreaRef) : Type 0 where
  pub live : IsLive s area
  pub last : s.next ≡ area.serial + 1

-- the blocks once it is given back: its block is free, and its serial is the next
abbrev pub without_last : AreaRef → Areas → Areas
without_last area s = with_use area.block Free (record s { next = area.serial })

-- the blocks once it is retired, from the generation of this number on
abbrev pub with_retired : AreaRef → ℕ → Areas → Areas
with_retired area since s = with_use area.block (Retired area.serial since) s

-- the blocks once it is released: its block is free
abbrev pub without_area : AreaRef → Areas → Areas
without_area area s = with_use area.block Free s
