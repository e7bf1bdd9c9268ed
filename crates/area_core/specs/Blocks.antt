-- What the words of blocks, slots and areas hold beneath readers: the block invariant.
-- Each clause speaks of the generations that count, whatever these are: in a state of lists those that a thread may
-- read, in a table beneath running threads those that its writer does not know to have passed. Fewer generations
-- ask for less. Each clause is said word by word, so that a store of one word is judged by that word alone.
-- Source: Erlang/OTP erts internal documentation, CodeLoading and Tracing, and the manual page of persistent_term;
-- the words are this project's own.
use Rattle.std.specs.Prelude.{◌≡◌, ◌≢◌, ℕ, ◌<◌, ◌≤◌, false, List, Some, slice_get, length, IsTrue}
use Rattle.std.specs.List.{list_any}
use Rattle.term_core.specs.declared.area.AreaRef.{AreaRef}
use Rattle.area_core.specs.declared.map.TheConstants.{PROCESSES, ANCHORS, BLOCKS, BIG_BLOCKS, CODE_INDICES, BREAKPOINT_INDICES, TERM_TABLES, AREAS_START, EXPORT_ENTRIES, FUNCTIONS}
use Rattle.area_core.specs.declared.table.Root.{Root}
use Rattle.area_core.specs.declared.table.Published.{Published}
use Rattle.area_core.specs.declared.table.KeptArea.{KeptArea}
use Rattle.area_core.specs.Map.{slot_place, retire_place, doom_place, block_place, room_of, breakpoint_place, term_place, image_entry_at}
use Rattle.area_core.specs.Generations.{is_instance, is_used, is_retired_area, is_doomed_area, is_traced_function, is_kept_as, is_kept, functions_in_image, has_function, is_entry_word, is_code_word, traced_word, tells, serial_in, is_naming}
use Rattle.area_core.specs.Terms.{TermsStand}

-- the words of the table by their places, the generations that were published, from 0 on, and the areas that were
-- published and not yet released
pub record Blocks : Type 0 where
  pub word : ℕ → ℕ
  pub published : List Published
  pub kept : List KeptArea

-- it is one of these
abbrev pub Among : {X : Type 0} → List X → X → Type 0
Among xs x = (i : ℕ) × (slice_get xs i ≡ Some x)

-- ---- what holds of one published generation

-- the root names blocks that there are
pub record RootFits (root : Root) : Type 0 where
  pub code : root.code < CODE_INDICES
  pub bp : root.bp < BREAKPOINT_INDICES
  pub term : root.term < TERM_TABLES

-- the code index of the root leads each function name to what it reaches
abbrev pub CodeStands : (ℕ → ℕ) → Published → Type 0
CodeStands word p =
    (entry : ℕ) → entry < EXPORT_ENTRIES → IsTrue (is_code_word p (slice_get p.state.exports entry) (word (block_place p.root.code entry)))

-- the block is one for instances
pub record IsForInstances (block : ℕ) : Type 0 where
  pub first : AREAS_START ≤ block
  pub last : block < BIG_BLOCKS

-- each current or old instance stands in a block for instances
abbrev pub InstancesPlaced : Published → Type 0
InstancesPlaced p = (a : AreaRef) → Among p.areas a → IsTrue (is_instance p a.serial) → IsForInstances a.block

-- the breakpoint index of the root says which functions of current and old instances are traced
abbrev pub BreakpointsStand : (ℕ → ℕ) → Published → Type 0
BreakpointsStand word p =
    (a : AreaRef) → Among p.areas a → IsTrue (is_instance p a.serial) → (function : ℕ) → function < FUNCTIONS → word (breakpoint_place p.root.bp a.block function) ≡ traced_word p a.serial function

-- the words of the term table of a root
abbrev pub term_blocks_words : (ℕ → ℕ) → Root → ℕ → ℕ
term_blocks_words word root at = word (term_place root.term at)

-- each current or old instance and each area of a key is kept, in its block and with its image
abbrev pub UsedAreKept : List KeptArea → Published → Type 0
UsedAreKept kept p = (serial : ℕ) → IsTrue (is_used p serial) → IsTrue (list_any (is_kept_as p serial) kept)

-- ---- what holds of one kept area

-- its block has room for its image, and is one for areas; an instance has no more functions than others
pub record FitsBlock (k : KeptArea) : Type 0 where
  pub first : AREAS_START ≤ k.area.block
  pub last : k.area.block < BLOCKS
  pub room : length k.words ≤ room_of k.area.block
  pub functions : k.area.block < BIG_BLOCKS → functions_in_image k.words ≤ FUNCTIONS

-- its block holds its image, apart from entry words
abbrev pub ImageStands : (ℕ → ℕ) → KeptArea → Type 0
ImageStands word k =
    (at value : ℕ) → slice_get k.words at ≡ Some value → is_entry_word k at ≡ false → word (block_place k.area.block at) ≡ value

-- an entry word is 0 only where the generation does not trace the function
abbrev pub EntriesStand : (ℕ → ℕ) → KeptArea → Published → Type 0
EntriesStand word k p =
    (function : ℕ) → IsTrue (has_function k function) → word (block_place k.area.block (image_entry_at function)) ≡ 0 → is_traced_function p k.area.serial function ≡ false

-- its retire word tells whether it is retired
abbrev pub RetireTells : (ℕ → ℕ) → KeptArea → ℕ → Published → Type 0
RetireTells word k g p = tells (word (retire_place k.area.block)) g ≡ is_retired_area p k.area.serial

-- the doom word of an instance that is not retired tells whether it is doomed
abbrev pub DoomTells : (ℕ → ℕ) → KeptArea → ℕ → Published → Type 0
DoomTells word k g p =
    k.area.block < BIG_BLOCKS → is_retired_area p k.area.serial ≡ false → tells (word (doom_place k.area.block)) g ≡ is_doomed_area p k.area.serial

-- what holds of a kept area under a generation
pub record AreaStands (word : ℕ → ℕ) (k : KeptArea) (g : ℕ) (p : Published) : Type 0 where
  -- an entry word is 0 only where the function is untraced
  pub entries : EntriesStand word k p
  -- the retire word tells whether it is retired
  pub retired : RetireTells word k g p
  -- the doom word tells whether it is doomed
  pub doomed : DoomTells word k g p

-- two kept areas differ in serial and in block
abbrev pub KeptApart : List KeptArea → Type 0
KeptApart kept =
    (i j : ℕ) (a b : KeptArea) → i ≢ j → slice_get kept i ≡ Some a → slice_get kept j ≡ Some b → (a.area.serial ≢ b.area.serial) × (a.area.block ≢ b.area.block)

-- ---- what holds of the slots

-- a process and an anchor of its slot, the anchors counted from 1
pub record IsAnchor (process anchor : ℕ) : Type 0 where
  pub slot : process < PROCESSES
  pub first : 1 ≤ anchor
  pub last : anchor ≤ ANCHORS

-- each area that a slot names is kept
abbrev pub NamedAreKept : (ℕ → ℕ) → List KeptArea → Type 0
NamedAreKept word kept =
    (process anchor : ℕ) → IsAnchor process anchor → IsTrue (is_naming (word (slot_place process anchor))) → IsTrue (is_kept kept (serial_in (word (slot_place process anchor))))

-- an area stands in at most one anchor of a slot
abbrev pub AnchorsApart : (ℕ → ℕ) → Type 0
AnchorsApart word =
    (process a b : ℕ) → IsAnchor process a → IsAnchor process b → a ≢ b → word (slot_place process a) ≢ 0 → word (slot_place process b) ≢ 0 → serial_in (word (slot_place process a)) ≢ serial_in (word (slot_place process b))

-- ---- the whole

-- something holds of each generation that counts
abbrev pub EachCounted : Blocks → (ℕ → Type 0) → (ℕ → Published → Type 0) → Type 0
EachCounted b Counts Holds = (g : ℕ) (p : Published) → Counts g → slice_get b.published g ≡ Some p → Holds g p

-- the block invariant, for the generations that count
pub record BlockInvariant (b : Blocks) (Counts : ℕ → Type 0) : Type 0 where
  -- roots name blocks that there are
  pub roots_fit : EachCounted b Counts (λ g p. RootFits p.root)
  -- instances stand in blocks for which breakpoint indices have words
  pub instances_placed : EachCounted b Counts (λ g p. InstancesPlaced p)
  -- external calls reach what the generation exports
  pub code_stands : EachCounted b Counts (λ g p. CodeStands b.word p)
  -- trace decisions are those of the generation
  pub breakpoints_stand : EachCounted b Counts (λ g p. BreakpointsStand b.word p)
  -- keys hold what the generation has under them
  pub terms_stand : EachCounted b Counts (λ g p. TermsStand (term_blocks_words b.word p.root) p)
  -- what the generation uses is not released
  pub used_kept : EachCounted b Counts (λ g p. UsedAreKept b.kept p)
  -- entry, retire and doom words tell of the generation
  pub areas_stand : EachCounted b Counts (λ g p. (k : KeptArea) → Among b.kept k → AreaStands b.word k g p)
  -- areas keep their images from publication to release
  pub images_stand : (k : KeptArea) → Among b.kept k → ImageStands b.word k
  -- areas have blocks in which they have room
  pub kept_fit : (k : KeptArea) → Among b.kept k → FitsBlock k
  -- each area has a block of its own
  pub kept_apart : KeptApart b.kept
  -- what a slot names is not released
  pub named_kept : NamedAreKept b.word b.kept
  -- an area stands in at most one anchor of a slot
  pub anchors_apart : AnchorsApart b.word
