-- An area is taken and written before it is published.
-- Source: Erlang/OTP erts internal documentation, CodeLoading: code is loaded beside what runs, before it is committed.
use Rattle.std.specs.Prelude.{◌≡◌, ℕ, ◌+◌, ◌^◌, ◌<◌, ◌≤◌, List, [], ◌∷◌, length, Some, slice_get}
use Rattle.term_core.specs.declared.area.AreaRef.{AreaRef}
use Rattle.area_core.specs.Map.{block_place, room_of, word_at}
use Rattle.shared_words.specs.declared.view.WriterView.{WriterView}
use Rattle.progress_words.specs.Tokens.{written_by}
use Rattle.server_core.specs.declared.change.Change.{Change}
use Rattle.change_laws.specs.Changes.{Incoming, incoming, instance, stored}
use Rattle.change_laws.specs.Images.{words_of}
use Rattle.literal_areas.specs.declared.areas.Areas.{Areas}
use Rattle.literal_areas.specs.declared.blocks.BlockUse.TheVariants.{Free}
use Rattle.literal_areas.specs.declared.blocks.Pool.{Pool}
use Rattle.literal_areas.specs.declared.blocks.Pool.TheVariants.{Big, Small}
use Rattle.literal_areas.specs.declared.taking.Take.{Take}
use Rattle.literal_areas.specs.declared.taking.Take.TheVariants.{Area, AllLive, AwaitRelease}
use Rattle.literal_areas.specs.Blocks.{AreAllLive, AwaitsRelease, HasTaken, blocks_of, first_of, size_of, use_of, with_area}
use Rattle.literal_areas.specs.Owned.{IsUnpublished}
use Rattle.literal_areas.specs.Written.{HasWritten, KeepsOtherBlocks}
use Rattle.staging.specs.declared.tables.Tables.{Tables}
use Rattle.staging.specs.Whose.{KeepsStaged}

-- ---- one area

-- the block of an area begins with these words
abbrev pub HasWords : WriterView → AreaRef → List ℕ → Type 0
HasWords w area words = (at value : ℕ) → slice_get words at ≡ Some value → word_at w.words (block_place area.block at) ≡ value

-- an area was taken, and no other word but those of its block was stored
pub record HasPlaced (pool : Pool) (words : List ℕ) (area : AreaRef) (old new : Tables) : Type 0 where
  pub taken : HasTaken pool area old.pools new.pools
  pub unpublished : IsUnpublished (written_by new.writer) area
  pub written : HasWords (written_by new.writer) area words
  pub others : KeepsOtherBlocks area.block (written_by old.writer) (written_by new.writer)
  pub stored : HasWritten area.block (length words) words (written_by old.writer) (written_by new.writer)
  pub staged : KeepsStaged old new

-- nothing was taken or stored, and this is why
pub record IsRefused (Why : Type 0) (old new : Tables) : Type 0 where
  pub why : Why
  pub pools : new.pools ≡ old.pools
  pub view : written_by new.writer ≡ written_by old.writer
  pub staged : KeepsStaged old new

-- what each answer says
abbrev pub PlaceAnswers : Pool → List ℕ → Tables → Tables → Take → Type 0
PlaceAnswers pool words old new (Area area) = HasPlaced pool words area old new
PlaceAnswers pool words old new AllLive = IsRefused (AreAllLive (blocks_of pool old.pools)) old new
PlaceAnswers pool words old new AwaitRelease = IsRefused (AwaitsRelease (blocks_of pool old.pools)) old new

-- ---- the areas that a change brings in

-- the pool of its block
abbrev pub pool_of : Incoming → Pool
pool_of (instance m) = Big
pool_of (stored term) = Small

-- the first of what a change brings in has these areas, and in the pool of what comes in next no block is free and one waits for its release
pub record NextAwaitsRelease (change : Change) (pools : Areas) (taken : List AreaRef) : Type 0 where
  pub comes : Incoming
  pub next : slice_get (incoming change) (length taken) ≡ Some comes
  pub awaits : AwaitsRelease (blocks_of (pool_of comes) pools)

-- the pools once these areas are taken, one after another
abbrev pub with_areas : List AreaRef → Areas → Areas
with_areas [] pools = pools
with_areas (area ∷ areas) pools = with_areas areas (with_area area pools)

-- each of these areas has the next serial, and a block that is free when it is taken
abbrev pub AreTaken : List AreaRef → Areas → Type 0
AreTaken [] pools = Unit {0}
AreTaken (area ∷ areas) pools = (area.serial ≡ pools.next) × (use_of pools area.block ≡ Some Free) × AreTaken areas (with_area area pools)

-- the area is that of what comes in: its block is one of the pool, with room for its words, and has these
pub record IsAreaOf (w : WriterView) (comes : Incoming) (area : AreaRef) : Type 0 where
  -- the serial has room in an anchor and in the word of a term table
  pub small : area.serial < 2 ^ 40
  pub first : first_of (pool_of comes) ≤ area.block
  pub last : area.block < first_of (pool_of comes) + size_of (pool_of comes)
  pub room : length (words_of area.serial comes) ≤ room_of area.block
  pub unpublished : IsUnpublished w area
  pub written : HasWords w area (words_of area.serial comes)

-- the first of what comes in has its areas, beside those of the state that is published
pub record ArePlaced (comes : List Incoming) (rest pools : Areas) (w : WriterView) (taken : List AreaRef) : Type 0 where
  pub few : length taken ≤ length comes
  pub taken_are : AreTaken taken rest
  pub pools_are : pools ≡ with_areas taken rest
  pub each : (place : ℕ) (i : Incoming) (area : AreaRef) → slice_get comes place ≡ Some i → slice_get taken place ≡ Some area → IsAreaOf w i area
