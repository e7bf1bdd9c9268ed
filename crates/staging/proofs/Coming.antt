-- What holds before the store of the root that publishes a state over these pools, whatever was staged for it.
use Rattle.std.proofs.Common.{◌≡◌, ℕ, ◌^◌, ◌<◌, ◌≤◌, ◌⊎◌, true, false, List, length, Some}
use Rattle.term_core.specs.declared.area.AreaRef.{AreaRef}
use Rattle.term_core.specs.declared.atom.Mfa.{Mfa}
use Rattle.area_core.specs.declared.table.KeptArea.{KeptArea}
use Rattle.area_core.specs.Generations as generations
use Rattle.area_core.specs.Generations.{functions_in_image}
use Rattle.area_core.specs.Map.{room_of}
use Rattle.area_core.specs.Blocks.{Among, KeptApart}
use Rattle.shared_words.specs.declared.view.WriterView.{WriterView}
use Rattle.progress_words.specs.Roots.{newest_of}
use Rattle.server_core.specs.Generations.{AreNumbered}
use Rattle.server_core.specs.ServerState.{Entry, IsSound, ServerState, is_doomed, is_traced, words_of_area}
use Rattle.change_laws.specs.Breakpoints.{IsLiveCode, KnowsItsCode}
use Rattle.literal_areas.specs.declared.areas.Areas.{Areas}
use Rattle.literal_areas.specs.declared.blocks.BlockUse.TheVariants.{Live}
use Rattle.literal_areas.specs.Blocks.{Stands, use_of}
use Rattle.literal_areas.specs.Owned.{AreOf, IsUnpublished}
use Rattle.staging.specs.Placed.{HasWords}
use Rattle.staging.specs.Standing.{AreKeysOnce, AreasPlaced, PoolsStand, StaysDropped, WordsTell}

-- the area comes in with this generation: it has its words in a block that no generation knows of
pub record IsFresh (s : ServerState) (pools : Areas) (w : WriterView) (a : AreaRef) (words : List ℕ) : Type 0 where
  pub unpublished : IsUnpublished w a
  pub live : use_of pools a.block ≡ Some (Live a.serial)
  pub room : length words ≤ room_of a.block
  pub functions : a.block < 64 → functions_in_image words ≤ 16
  pub written : HasWords w a words
  pub undoomed : is_doomed s a.serial ≡ false
  -- the newest generation has neither doomed nor retired it, nor does it trace one of its functions
  pub unheard : generations.is_doomed_area (newest_of w) a.serial ≡ false
  pub unretired : generations.is_retired_area (newest_of w) a.serial ≡ false
  pub untraced : (function : ℕ) → generations.is_traced_function (newest_of w) a.serial function ≡ false

-- an area that stands has its words, and is kept or fresh
pub record HasImage (s : ServerState) (pools : Areas) (w : WriterView) (a : AreaRef) : Type 0 where
  pub words : List ℕ
  pub of : words_of_area s a.serial ≡ Some words
  pub stands : Among w.kept (record { area = a; words = words }) ⊎ IsFresh s pools w a words

pub record ComesNext (names : List Mfa) (s : ServerState) (pools : Areas) (w : WriterView) : Type 0 where
  pub sound : IsSound s
  pub numbered : AreNumbered names s
  pub keys_once : AreKeysOnce s.keys
  pub narrow : s.next_serial ≤ 2 ^ 40
  pub owned : AreOf pools w
  pub blocks : PoolsStand s pools
  pub placed : AreasPlaced s pools
  pub images : (a : AreaRef) → Stands pools a → HasImage s pools w a
  pub kept : (k : KeptArea) → Among w.kept k → words_of_area s k.area.serial ≡ Some k.words
  pub apart : KeptApart w.kept
  pub words : WordsTell s pools w
  pub dropped : StaysDropped s w.published
  pub bp : (newest_of w).root.bp < 2
  pub knows : KnowsItsCode s
  -- what is kept is an area of the newest generation, and its instances are, where they are current or old code
  pub stay : (k : KeptArea) → Among w.kept k → Among (newest_of w).areas k.area
  pub lives : (k : KeptArea) → Among w.kept k → IsLiveCode s k.area.serial → generations.is_instance (newest_of w) k.area.serial ≡ true

-- a function of an instance
abbrev pub entry_in : ℕ → ℕ → Entry
entry_in serial function = record { serial = serial; function = function }

-- the newest generation traces what the state traces, and nothing else of current and old code
pub record TracesAlike (s : ServerState) (w : WriterView) : Type 0 where
  pub fewer : (serial function : ℕ) → is_traced s (entry_in serial function) ≡ true → generations.is_traced_function (newest_of w) serial function ≡ true
  pub same : (serial function : ℕ) → IsLiveCode s serial → is_traced s (entry_in serial function) ≡ generations.is_traced_function (newest_of w) serial function
