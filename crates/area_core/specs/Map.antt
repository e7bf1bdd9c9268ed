-- Where each word of the shared table stands: the slots of the processes, the retire and doom words of the blocks,
-- and the blocks. The map is this project's own.
use Rattle.std.specs.Prelude.{ℕ, ◌+◌, ◌-◌, ◌*◌, ◌/◌, ◌%◌, nat_lt, if◌then◌else◌, List, slice_get, replicate, unwrap_or}
use Rattle.area_core.specs.declared.map.TheConstants.{TABLE_WORDS, SLOTS_START, SLOT_WORDS, ANCHORS, RETIRE_START, DOOM_START, BLOCKS_START, SMALL_START, BIG_BLOCKS, BIG_WORDS, SMALL_WORDS, BREAKPOINTS_START, TERMS_START, AREAS_START, FUNCTIONS}
use Rattle.area_core.specs.declared.map.WordKind.{WordKind}
use Rattle.area_core.specs.declared.map.WordKind.TheVariants.{Machine, Slot, Retire, Doom, InBlock, Nowhere}

-- the word at a place, or 0 where there is no such word
abbrev pub word_at : List ℕ → ℕ → ℕ
word_at words place = unwrap_or (slice_get words place) 0

-- so many words, each 0
unfoldable pub opening_words : ℕ → List ℕ
opening_words count = replicate count 0

-- the place of a word of a process's slot: the turns done, then the anchors
abbrev pub slot_place : ℕ → ℕ → ℕ
slot_place process place = SLOTS_START + process * SLOT_WORDS + place

-- the place of an anchor, where those of all slots are numbered through
abbrev pub anchor_place : ℕ → ℕ
anchor_place anchor = slot_place (anchor / ANCHORS) (anchor % ANCHORS + 1)

-- the place of the retire word of a block
abbrev pub retire_place : ℕ → ℕ
retire_place block = RETIRE_START + block

-- the place of the doom word of a block
abbrev pub doom_place : ℕ → ℕ
doom_place block = DOOM_START + block

-- the place of a word of a block
abbrev pub block_place : ℕ → ℕ → ℕ
block_place block at =
    if nat_lt block BIG_BLOCKS then BLOCKS_START + block * BIG_WORDS + at else SMALL_START + (block - BIG_BLOCKS) * SMALL_WORDS + at

-- how many words a block has
abbrev pub room_of : ℕ → ℕ
room_of block = if nat_lt block BIG_BLOCKS then BIG_WORDS else SMALL_WORDS

-- where a breakpoint index has the word of a function of the instance in this block
abbrev pub breakpoint_at : ℕ → ℕ → ℕ
breakpoint_at block function = (block - AREAS_START) * FUNCTIONS + function

-- the place of that word in a breakpoint index
abbrev pub breakpoint_place : ℕ → ℕ → ℕ → ℕ
breakpoint_place bp block function = block_place (BREAKPOINTS_START + bp) (breakpoint_at block function)

-- the place of a word of a term table
abbrev pub term_place : ℕ → ℕ → ℕ
term_place term at = block_place (TERMS_START + term) at

-- where the image of an instance has the entry word of a function
abbrev pub image_entry_at : ℕ → ℕ
image_entry_at function = function * 4 + 6

-- what a word of the blocks is for
abbrev pub kind_in_blocks : ℕ → WordKind
kind_in_blocks word =
    if nat_lt word SMALL_START then InBlock ((word - BLOCKS_START) / BIG_WORDS) ((word - BLOCKS_START) % BIG_WORDS) else if nat_lt word TABLE_WORDS then InBlock (BIG_BLOCKS + (word - SMALL_START) / SMALL_WORDS) ((word - SMALL_START) % SMALL_WORDS) else Nowhere

-- what a word of the table is for
abbrev pub kind_at : ℕ → WordKind
kind_at word =
    if nat_lt word SLOTS_START then Machine else if nat_lt word RETIRE_START then Slot else if nat_lt word DOOM_START then Retire (word - RETIRE_START) else if nat_lt word BLOCKS_START then Doom (word - DOOM_START) else kind_in_blocks word
