-- Where each kind of store is enabled: exactly where its line is met and the block invariant holds after it. A line says
-- who may store the word; that the words still stand for the generations is said of the state after the store.
-- Source: Erlang/OTP erts internal documentation, CodeLoading and Tracing; the words and the lines are this project's own.
use Rattle.std.specs.Prelude.{◌≡◌, ℕ, ◌+◌, ◌%◌, ◌<◌, ◌≤◌, ◌==◌, Bool, false, ◌↔◌, List, length, Some, slice_get, IsTrue}
use Rattle.std.specs.List.{list_any}
use Rattle.prgr_core.specs.declared.member.Member.{Member}
use Rattle.prgr_core.specs.declared.progress.Progress.{Progress}
use Rattle.prgr_core.specs.Members.{IsValue}
use Rattle.prgr_core.specs.Machine.{machine_of, Readable}
use Rattle.prgr_core.specs.Step.{IsSound as IsProgressSound}
use Rattle.term_core.specs.declared.area.AreaRef.{AreaRef}
use Rattle.term_core.specs.declared.area.CodeRef.{CodeRef}
use Rattle.term_core.specs.declared.generation.Generation.{Generation}
use Rattle.area_core.specs.declared.map.TheConstants.{PROCESSES, ANCHORS}
use Rattle.area_core.specs.declared.map.WordKind.TheVariants.{Retire, Doom, InBlock}
use Rattle.area_core.specs.declared.event.AreaEvent.TheVariants.{StoreWord, StoreRoot, StoreSlot, StoreEntry}
use Rattle.area_core.specs.declared.table.Published.{Published}
use Rattle.area_core.specs.declared.table.KeptArea.{KeptArea}
use Rattle.area_core.specs.declared.table.Table.{Table}
use Rattle.area_core.specs.Map.{word_at, slot_place, block_place, image_entry_at, kind_at}
use Rattle.area_core.specs.Generations.{has_function, anchor_names_area}
use Rattle.area_core.specs.Terms.{TermsStand, terms_stand}
use Rattle.area_core.specs.Blocks.{Among, IsAnchor, BlockInvariant}
use Rattle.area_core.specs.Readers.{reads_in_block, readable_generations}
use Rattle.area_core.specs.Stores.{with_word, kept_after, entry_word, may_name_frame, may_name_literal}
use Rattle.area_core.specs.Roots.{fresh_areas}
use Rattle.area_core.specs.Step.{after, to_publish, published_in, IsReadable, IsSound, blocks_of}

-- the words of a state stand for its readable generations
abbrev pub BlocksStand : Table → Type 0
BlocksStand t = BlockInvariant (blocks_of t) (IsReadable t)

-- ---- words of blocks

-- no thread may read the word of a block: no readable generation does, and no slot names an area in the block
pub record IsUnread (s : Table) (block at : ℕ) : Type 0 where
  pub under : (g : ℕ) (p : Published) → IsReadable s g → slice_get s.published g ≡ Some p → reads_in_block p block at ≡ false
  pub unnamed : (k : KeptArea) (process anchor : ℕ) → Among s.kept k → k.area.block ≡ block → IsAnchor process anchor → anchor_names_area (word_at s.words (slot_place process anchor)) k.area.serial ≡ false

-- a word of a block may be stored exactly where no thread may read it and the invariant holds after it
abbrev pub DecidesBlockStores : Type 0
DecidesBlockStores = (s : Table) (word value block at : ℕ) → IsSound s → kind_at word ≡ InBlock block at → (after s (StoreWord word value) ≡ Some (with_word s word value)) ↔ (IsUnread s block at × BlocksStand (with_word s word value))

-- ---- retire and doom words

-- the state after a store of a retire word, which may release the area in its block
abbrev pub with_retire : Table → ℕ → ℕ → ℕ → Table
with_retire s word block value = record (with_word s word value) { kept = kept_after s block value }

-- a retire word may be stored exactly where the invariant holds after it, of the areas that are kept then
abbrev pub DecidesRetireStores : Type 0
DecidesRetireStores = (s : Table) (word value block : ℕ) → IsSound s → kind_at word ≡ Retire block → (after s (StoreWord word value) ≡ Some (with_retire s word block value)) ↔ BlocksStand (with_retire s word block value)

-- a doom word may be stored exactly where the invariant holds after it
abbrev pub DecidesDoomStores : Type 0
DecidesDoomStores = (s : Table) (word value block : ℕ) → IsSound s → kind_at word ≡ Doom block → (after s (StoreWord word value) ≡ Some (with_word s word value)) ↔ BlocksStand (with_word s word value)

-- ---- entry words

-- the function is one of a kept instance, in its block
pub record IsFunctionOfBlock (kept : List KeptArea) (at : CodeRef) (k : KeptArea) : Type 0 where
  pub among : Among kept k
  pub serial : k.area.serial ≡ at.area.serial
  pub block : k.area.block ≡ at.area.block
  pub has : IsTrue (has_function k at.function)

-- the state after a store of an entry word
abbrev pub with_entry : Table → CodeRef → Bool → Table
with_entry s at on = with_word s (block_place at.area.block (image_entry_at at.function)) (entry_word on)

-- an entry word may be stored exactly where it is that of a kept instance and the invariant holds after it
abbrev pub DecidesEntryStores : Type 0
DecidesEntryStores = (s : Table) (at : CodeRef) (on : Bool) → IsSound s → (after s (StoreEntry at on) ≡ Some (with_entry s at on)) ↔ (((k : KeptArea) × IsFunctionOfBlock s.kept at k) × BlocksStand (with_entry s at on))

-- ---- slots

-- the slot is one of member k, whose word is a value, and under the generation that it reads, p, the anchor newly names
-- for a frame only what is current, and for a literal only the area of a key or one that the slot names for a frame
pub record MayNameIn (s : Table) (k process place value : ℕ) (member : Member) (p : Published) : Type 0 where
  pub made : slice_get s.progress.members k ≡ Some member
  pub awake : IsValue member.word
  pub slot : process < PROCESSES
  pub own : process % length s.progress.members ≡ k
  pub last : place ≤ ANCHORS
  pub reads : slice_get s.published member.generation ≡ Some p
  pub frame : 1 ≤ place → IsTrue (may_name_frame p (word_at s.words (slot_place process place)) value)
  pub literal : 1 ≤ place → IsTrue (may_name_literal p s.words process (word_at s.words (slot_place process place)) value)

-- a word of a slot may be stored exactly where its line is met and the invariant holds after it
abbrev pub DecidesSlotStores : Type 0
DecidesSlotStores = (s : Table) (k process place value : ℕ) → IsSound s → (after s (StoreSlot k process place value) ≡ Some (with_word s (slot_place process place) value)) ↔ (((member : Member) × (p : Published) × MayNameIn s k process place value member p) × BlocksStand (with_word s (slot_place process place) value))

-- ---- the root

-- the state in which this is published next, and what it newly uses is kept
abbrev pub with_root : Table → Published → Table
with_root s p = published_in s p (fresh_areas s.kept p) (record s.progress { generation = s.progress.generation + 1 })

-- the root may be stored exactly where the invariant holds after it
abbrev pub DecidesRootStores : Type 0
DecidesRootStores = (s : Table) (code bp term : ℕ) (next : Generation) (areas : List AreaRef) → IsSound s → (after s (StoreRoot code bp term next areas) ≡ Some (with_root s (to_publish code bp term next areas))) ↔ BlocksStand (with_root s (to_publish code bp term next areas))

-- ---- what the tests go through

-- the test of a term table says just that the block stands for the keys
abbrev pub DecidesTables : Type 0
DecidesTables = (block : ℕ → ℕ) (p : Published) → IsTrue (terms_stand block p) ↔ TermsStand block p

-- the list of readable generations has just those that a thread may read
abbrev pub ListsReadable : Type 0
ListsReadable = (s : Progress) (g : ℕ) → IsProgressSound s → IsTrue (list_any (λ x. x == g) (readable_generations s)) ↔ Readable (machine_of s) g
