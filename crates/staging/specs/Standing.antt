-- The shared words stand for a state of the server: what is published last, the blocks of its areas, and the words that tell of these.
-- Source: Erlang/OTP erts internal documentation, CodeLoading, and the manual page of persistent_term; blocks and words are this project's own.
use Rattle.std.specs.Prelude.{◌≡◌, ◌≢◌, ◌⊎◌, ℕ, ◌+◌, ◌^◌, ◌<◌, ◌≤◌, false, length, slice_get, if◌then◌else◌, List, [], ◌∷◌, Option, Some, None, IsTrue}
use Rattle.term_core.specs.declared.area.AreaRef.{AreaRef}
use Rattle.term_core.specs.declared.atom.Mfa.{Mfa}
use Rattle.mod_core.specs.declared.code.Module.{Module}
use Rattle.area_core.specs.declared.map.TheConstants.{BLOCKS, BIG_BLOCKS, BREAKPOINT_INDICES}
use Rattle.area_core.specs.declared.table.KeptArea.{KeptArea}
use Rattle.area_core.specs.declared.table.Published.{Published}
use Rattle.area_core.specs.Generations.{has_serial, is_used}
use Rattle.area_core.specs.Map.{doom_place, retire_place, word_at}
use Rattle.area_core.specs.Blocks.{Among, IsForInstances, KeptApart}
use Rattle.area_core.specs.Step.{opening_published}
use Rattle.shared_words.specs.declared.view.WriterView.{WriterView}
use Rattle.shared_words.specs.Rule.{OldStays, RetiredStays}
use Rattle.progress_words.specs.Roots.{newest_of}
use Rattle.server_core.specs.Generations.{AreNumbered, generation_of}
use Rattle.server_core.specs.ServerState.{IsSound, Persistent, ServerState, code_of, current_of, empty_state, is_doomed, is_retired, is_serial_in, live_areas, live_count, words_of_area}
use Rattle.change_laws.specs.Breakpoints.{KnowsItsCode}
use Rattle.change_laws.specs.Uses.{IsUsed}
use Rattle.literal_areas.specs.declared.blocks.BlockUse.{BlockUse}
use Rattle.literal_areas.specs.declared.blocks.BlockUse.TheVariants.{Free, Live, Retired}
use Rattle.literal_areas.specs.declared.areas.Areas.{Areas}
use Rattle.literal_areas.specs.Blocks.{Stands, is_live, serial_at, use_of}

-- ---- the newest generation

-- areas were released since: the state is else the same
pub record IsReleasedSince (stood now : ServerState) : Type 0 where
  pub same : now ≡ record stood { retired = now.retired; released = now.released }
  pub fewer : (serial : ℕ) → IsTrue (is_retired now serial) → IsTrue (is_retired stood serial)
  pub more : (serial : ℕ) → IsTrue (is_serial_in stood.released serial) → IsTrue (is_serial_in now.released serial)

-- a generation is that of the state; generation 0 is the empty one, which has no entry for a name
abbrev pub ShowsState : List Mfa → ServerState → Published → Type 0
ShowsState names s p = (p.state ≡ generation_of names s) ⊎ ((p ≡ opening_published) × (s ≡ empty_state))

-- it is that of the state, but for areas that were released since
pub record IsShownBy (names : List Mfa) (s : ServerState) (p : Published) : Type 0 where
  pub stood : ServerState
  pub sound : IsSound stood
  pub since : IsReleasedSince stood s
  pub shows : ShowsState names stood p

-- ---- the keys

-- no key stands twice among these
abbrev pub AreKeysOnce : List Persistent → Type 0
AreKeysOnce keys = (i j : ℕ) (p q : Persistent) → slice_get keys i ≡ Some p → slice_get keys j ≡ Some q → p.key ≡ q.key → i ≡ j

-- ---- the areas

-- how many blocks of a pool have a live area
abbrev pub live_blocks : List BlockUse → ℕ
live_blocks [] = 0
live_blocks (used ∷ uses) = (if is_live used then 1 else 0) + live_blocks uses

-- the areas that the state uses are the live ones, those that wait for their release are the retired ones, and the next area has
-- the serial that it has in the state
pub record PoolsStand (s : ServerState) (pools : Areas) : Type 0 where
  pub next : pools.next ≡ s.next_serial
  pub used : (serial : ℕ) → IsUsed s serial → (block : ℕ) × (use_of pools block ≡ Some (Live serial))
  pub live : (block serial : ℕ) → use_of pools block ≡ Some (Live serial) → IsUsed s serial
  pub waiting : (serial : ℕ) → IsTrue (is_retired s serial) → (block : ℕ) × ((since : ℕ) × (use_of pools block ≡ Some (Retired serial since)))
  pub retired : (block serial since : ℕ) → use_of pools block ≡ Some (Retired serial since) → IsTrue (is_retired s serial)
  -- an area that was released has no block
  pub unreleased : (block serial : ℕ) → serial_at pools block ≡ Some serial → is_serial_in s.released serial ≡ false
  -- there are as many as the limits on commands count
  pub instances : live_blocks pools.big ≡ live_count s.versions
  pub terms : live_blocks pools.small ≡ live_areas s.keys

-- an instance has a big block, and the area of a term a small one
pub record AreasPlaced (s : ServerState) (pools : Areas) : Type 0 where
  pub instances : (a : AreaRef) (m : Module) → Stands pools a → code_of s a.serial ≡ Some m → IsForInstances a.block
  pub terms : (a : AreaRef) → Stands pools a → code_of s a.serial ≡ None → BIG_BLOCKS ≤ a.block

-- each area in a block is kept once, with its image; no other is
pub record ImagesKept (s : ServerState) (pools : Areas) (kept : List KeptArea) : Type 0 where
  pub areas : (a : AreaRef) → Stands pools a → (words : List ℕ) × Among kept (record { area = a; words = words })
  pub images : (k : KeptArea) → Among kept k → words_of_area s k.area.serial ≡ Some k.words
  pub apart : KeptApart kept

-- ---- the words that tell of areas

-- the retire word of a block that is used so: the number from which on its area is retired
abbrev pub retire_word_of : Option BlockUse → ℕ
retire_word_of (Some (Retired serial since)) = since
retire_word_of (Some (Live serial)) = 0
retire_word_of (Some Free) = 0
retire_word_of None = 0

-- the doom word of an instance tells whether it is doomed from a generation on, this one at the latest
pub record DoomStands (s : ServerState) (serial last word : ℕ) : Type 0 where
  pub clear : is_doomed s serial ≡ false → word ≡ 0
  pub set : IsTrue (is_doomed s serial) → (0 < word) × (word ≤ last)

-- a generation does not use the area, and has no other one in its block
pub record IsGoneFrom (p : Published) (block serial : ℕ) : Type 0 where
  pub unused : is_used p serial ≡ false
  pub alone : (a : AreaRef) → Among p.areas a → a.block ≡ block → a.serial ≡ serial

-- an area is retired from this generation on, which is published or the next one, and in none before it; from then on each generation has done with it
abbrev pub IsSince : List Published → ℕ → ℕ → ℕ → Type 0
IsSince published block serial since =
    (0 < since) × (since ≤ length published) × ((g : ℕ) (p : Published) → slice_get published g ≡ Some p → IsTrue (has_serial p.state.retired serial) → since ≤ g)
    × ((g : ℕ) (p : Published) → slice_get published g ≡ Some p → since ≤ g → IsGoneFrom p block serial)

-- retire words tell of retired areas, and doom words of doomed ones
pub record WordsTell (s : ServerState) (pools : Areas) (w : WriterView) : Type 0 where
  pub retire : (block : ℕ) → block < BLOCKS → word_at w.words (retire_place block) ≡ retire_word_of (use_of pools block)
  pub since : (block serial since : ℕ) → use_of pools block ≡ Some (Retired serial since) → IsSince w.published block serial since
  pub free : (block : ℕ) → block < BIG_BLOCKS → use_of pools block ≡ Some Free → word_at w.words (doom_place block) ≡ 0
  -- and so is an instance doomed
  pub doom : (block serial : ℕ) → block < BIG_BLOCKS → use_of pools block ≡ Some (Live serial) → DoomStands s serial (length w.published) (word_at w.words (doom_place block))

-- ---- what was published

-- what a generation has as old code is current no more, what it has doomed is doomed still or used no more, and what it has retired
-- is used no more, in later generations and now
pub record StaysDropped (s : ServerState) (published : List Published) : Type 0 where
  pub old : (p : Published) (serial : ℕ) → Among published p → IsTrue (has_serial p.state.old serial) → (serial < s.next_serial) × ((name : ℕ) → current_of s name ≢ Some serial)
  pub doomed : (p : Published) (serial : ℕ) → Among published p → IsTrue (has_serial p.state.doomed serial) → (serial < s.next_serial) × (IsTrue (is_doomed s serial) ⊎ (IsUsed s serial → ⊥))
  pub retired : (p : Published) (serial : ℕ) → Among published p → IsTrue (has_serial p.state.retired serial) → (serial < s.next_serial) × (IsUsed s serial → ⊥)
  pub old_stays : OldStays published
  pub retired_stays : RetiredStays published

-- ---- the whole

-- what the writer has published and stored stands for the state, with each area in its block
pub record StandFor (names : List Mfa) (s : ServerState) (pools : Areas) (w : WriterView) : Type 0 where
  pub newest_is : IsShownBy names s (newest_of w)
  pub numbered : AreNumbered names s
  pub keys_once : AreKeysOnce s.keys
  -- no code is forgotten
  pub knows : KnowsItsCode s
  -- each serial has room in the word of a term table
  pub narrow : s.next_serial ≤ 2 ^ 40
  -- the newest generation has a breakpoint index, and its areas that are used still stand in their blocks
  pub bp : (newest_of w).root.bp < BREAKPOINT_INDICES
  pub listed : (a : AreaRef) → Among (newest_of w).areas a → IsUsed s a.serial → Stands pools a
  -- and what is kept is one of its areas
  pub stay : (k : KeptArea) → Among w.kept k → Among (newest_of w).areas k.area
  pub blocks : PoolsStand s pools
  pub placed : AreasPlaced s pools
  pub images : ImagesKept s pools w.kept
  pub words : WordsTell s pools w
  pub dropped : StaysDropped s w.published
