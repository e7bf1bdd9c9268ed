-- Which blocks belong to which writer: what the pools say of areas agrees with what was published and is kept.
-- Source: Erlang/OTP erts internal documentation, CodeLoading; the blocks and the serials are this project's own.
use Rattle.std.specs.Prelude.{◌≡◌, ◌≢◌, ℕ, ◌<◌, ◌≤◌, false, [], length, Some, slice_get, IsTrue}
use Rattle.term_core.specs.declared.area.AreaRef.{AreaRef}
use Rattle.area_core.specs.declared.map.TheConstants.{TABLE_WORDS}
use Rattle.area_core.specs.declared.table.Published.{Published}
use Rattle.area_core.specs.declared.table.KeptArea.{KeptArea}
use Rattle.area_core.specs.Generations.{is_reached, is_retired_area, is_used}
use Rattle.area_core.specs.Blocks.{Among}
use Rattle.area_core.specs.Step.{opening_published}
use Rattle.shared_words.specs.declared.view.WriterView.{WriterView}
use Rattle.shared_words.specs.Publishing.{EachMayBeRead}
use Rattle.literal_areas.specs.declared.blocks.BlockUse.TheVariants.{Live, Retired}
use Rattle.literal_areas.specs.declared.areas.Areas.{Areas}
use Rattle.literal_areas.specs.Blocks.{use_of, Stands, IsSound}

-- the area of this serial was taken, and is live no more
pub record IsPast (s : Areas) (serial : ℕ) : Type 0 where
  pub below : serial < s.next
  pub dead : (block : ℕ) → use_of s block ≡ Some (Live serial) → ⊥

-- the generation of this number has the area among its retired ones, and does not use it
pub record HasRetired (p : Published) (serial : ℕ) : Type 0 where
  pub retired : IsTrue (is_retired_area p serial)
  pub unused : is_used p serial ≡ false

-- the pools are those of the writer who knows this
pub record AreOf (s : Areas) (w : WriterView) : Type 0 where
  -- serials and blocks are in order
  pub sound : IsSound s
  -- the writer knows all words
  pub all : length w.words ≡ TABLE_WORDS
  -- each area that is kept stands in its block
  pub kept : (k : KeptArea) → Among w.kept k → Stands s k.area
  -- so does each that a generation reaches which may be read
  pub reached : EachMayBeRead w (λ g p. (area : AreaRef) → Among p.areas area → IsTrue (is_reached p area.serial) → Stands s area)
  -- published areas were taken
  pub taken : (p : Published) (area : AreaRef) → Among w.published p → Among p.areas area → area.serial < s.next
  -- what a generation has retired is live no more
  pub past : (p : Published) (serial : ℕ) → Among w.published p → IsTrue (is_retired_area p serial) → IsPast s serial
  -- a retired area is retired in each generation from the first one that retires it on
  pub since : (block serial first g : ℕ) (p : Published) → use_of s block ≡ Some (Retired serial first) → first ≤ g → slice_get w.published g ≡ Some p → HasRetired p serial

-- no generation has the area, nor is it kept
pub record IsUnpublished (w : WriterView) (area : AreaRef) : Type 0 where
  pub listed : (p : Published) (a : AreaRef) → Among w.published p → Among p.areas a → a.serial ≢ area.serial
  pub kept : (k : KeptArea) → Among w.kept k → k.area.serial ≢ area.serial

-- the writer has published nothing but the empty generation, and keeps no area
pub record IsAtFirst (w : WriterView) : Type 0 where
  pub all : length w.words ≡ TABLE_WORDS
  pub published : (p : Published) → Among w.published p → p ≡ opening_published
  pub kept : w.kept ≡ []

-- the pools are those of any writer who has not begun
abbrev pub AreAtFirst : Areas → Type 0
AreAtFirst s = (w : WriterView) → IsAtFirst w → AreOf s w

-- ---- what is published

-- a generation may be published over these pools: its areas stand in their blocks, those that it uses are live, and those
-- that it has retired are the retired ones
pub record IsListed (s : Areas) (p : Published) : Type 0 where
  pub stand : (area : AreaRef) → Among p.areas area → Stands s area
  pub used : (serial : ℕ) → IsTrue (is_used p serial) → (block : ℕ) × (use_of s block ≡ Some (Live serial))
  pub retired : (block serial first : ℕ) → use_of s block ≡ Some (Retired serial first) → IsTrue (is_retired_area p serial)
  pub past : (serial : ℕ) → IsTrue (is_retired_area p serial) → IsPast s serial
