-- When a store keeps the block invariant: a test on the stored word alone, over the generations that a thread may read.
use Rattle.std.specs.Prelude.{ℕ, zero, suc, ◌+◌, ◌-◌, ◌/◌, ◌==◌, Bool, true, false, not, ◌&&◌, ◌||◌, if◌then◌else◌, List, Option, Some, None, slice_get, slice_set}
use Rattle.std.specs.List.{list_any, list_all, filter}
use Rattle.term_core.specs.declared.area.CodeRef.{CodeRef}
use Rattle.area_core.specs.declared.map.TheConstants.{ANCHORS}
use Rattle.area_core.specs.declared.map.WordKind.TheVariants.{InBlock}
use Rattle.area_core.specs.declared.readers.Slots.TheVariants.{All}
use Rattle.area_core.specs.declared.table.Published.{Published}
use Rattle.area_core.specs.declared.table.KeptArea.{KeptArea}
use Rattle.area_core.specs.declared.table.Table.{Table}
use Rattle.area_core.specs.Map.{word_at, slot_place}
use Rattle.area_core.specs.Generations.{is_current, is_key_area, is_used, is_retired_area, is_doomed_area, is_traced_function, has_function, is_entry_word, tells, are_alike, serial_in, names_frame, names_literal}
use Rattle.area_core.specs.Readers.{holds_of_each, is_named_area, is_read}

-- the table with this word at a place
abbrev pub with_word : Table → ℕ → ℕ → Table
with_word s place value = record s { words = slice_set s.words place value }

-- a test holds of each kept area in this block
abbrev pub holds_in_block : List KeptArea → ℕ → (KeptArea → Bool) → Bool
holds_in_block kept block test = list_all (λ k. not (k.area.block == block) || test k) kept

-- ---- words of blocks

-- none of these generations traces the function
abbrev pub is_untraced : Table → List ℕ → ℕ → ℕ → Bool
is_untraced s generations serial function = holds_of_each s.published generations (λ g p. not (is_traced_function p serial function))

-- the entry word of a function may become this: 0 only where no generation traces the function
abbrev pub may_be_entry : Table → List ℕ → ℕ → ℕ → ℕ → Bool
may_be_entry s generations serial function value = not (value == 0) || is_untraced s generations serial function

-- the word of an image at this place, if there is one, is this value
abbrev pub is_image_word : Option ℕ → ℕ → Bool
is_image_word None value = true
is_image_word (Some word) value = word == value

-- a word of a kept area may become this value: an entry word as above, any other only what it is
abbrev pub may_be_in_image : Table → List ℕ → ℕ → ℕ → KeptArea → Bool
may_be_in_image s generations at value k =
    if is_entry_word k at then may_be_entry s generations k.area.serial (at / 4 - 1) value else is_image_word (slice_get k.words at) value

-- a word of a block may be stored: no thread may read it, and kept areas keep their images
abbrev pub may_store_in_block : Table → List ℕ → ℕ → ℕ → ℕ → Bool
may_store_in_block s generations block at value =
    not (is_read s generations (InBlock block at)) && holds_in_block s.kept block (may_be_in_image s generations at value)

-- ---- retire and doom words

-- the area is retired in what was published
abbrev pub is_retired_in : Option Published → ℕ → Bool
is_retired_in None serial = false
is_retired_in (Some p) serial = is_retired_area p serial

-- the store of 0 into the retire word of an area that is retired in what was published releases it
abbrev pub is_released_at : Option Published → ℕ → KeptArea → Bool
is_released_at newest value k = (value == 0) && is_retired_in newest k.area.serial

-- so where the newest generation has retired it
abbrev pub is_released_by : Table → ℕ → KeptArea → Bool
is_released_by s value k = is_released_at (slice_get s.published s.progress.generation) value k

-- an area may be released where no slot names it and no generation uses it
abbrev pub may_release : Table → List ℕ → KeptArea → Bool
may_release s generations k =
    not (is_named_area All s.words k.area.serial) && holds_of_each s.published generations (λ g p. not (is_used p k.area.serial))

-- the retire word of a kept area may become this value
abbrev pub may_be_retire : Table → List ℕ → ℕ → KeptArea → Bool
may_be_retire s generations value k =
    if is_released_by s value k then may_release s generations k else holds_of_each s.published generations (λ g p. are_alike (tells value g) (is_retired_area p k.area.serial))

-- the areas that are kept after a store of this value into the retire word of a block
abbrev pub kept_after : Table → ℕ → ℕ → List KeptArea
kept_after s block value = filter (λ k. not ((k.area.block == block) && is_released_by s value k)) s.kept

-- the doom word of a kept area may become this value
abbrev pub may_be_doom : Table → List ℕ → ℕ → KeptArea → Bool
may_be_doom s generations value k =
    holds_of_each s.published generations (λ g p. is_retired_area p k.area.serial || are_alike (tells value g) (is_doomed_area p k.area.serial))

-- ---- entry words

-- the function is one of a kept instance, in its block
abbrev pub is_function_of : CodeRef → KeptArea → Bool
is_function_of at k = (k.area.serial == at.area.serial) && (k.area.block == at.area.block) && has_function k at.function

-- the entry word as it is stored: 1 where it is on
abbrev pub entry_word : Bool → ℕ
entry_word on = if on then 1 else 0

-- the entry word of a function may be stored: 0 only where no generation traces the function
abbrev pub may_store_entry : Table → List ℕ → CodeRef → Bool → Bool
may_store_entry s generations at on =
    list_any (is_function_of at) s.kept && may_be_entry s generations at.area.serial at.function (entry_word on)

-- ---- slots

-- another of the first so many anchors of the slot has this serial
unfoldable pub stands_elsewhere : List ℕ → ℕ → ℕ → ℕ → ℕ → Bool
stands_elsewhere words process place serial zero = false
stands_elsewhere words process place serial (suc n) =
    stands_elsewhere words process place serial n || (not (n + 1 == place) && not (word_at words (slot_place process (n + 1)) == 0) && (serial_in (word_at words (slot_place process (n + 1))) == serial))

-- one of the first so many anchors of the slot names the area for a frame
unfoldable pub is_framed : List ℕ → ℕ → ℕ → ℕ → Bool
is_framed words process serial zero = false
is_framed words process serial (suc n) =
    is_framed words process serial n || names_frame (word_at words (slot_place process (n + 1))) serial

-- what an anchor newly names for a frame is current in the generation
abbrev pub may_name_frame : Published → ℕ → ℕ → Bool
may_name_frame p old value =
    not (names_frame value (serial_in value)) || names_frame old (serial_in value) || is_current p (serial_in value)

-- what an anchor newly names for a literal is the area of a key, or one that the slot names for a frame
abbrev pub may_name_literal : Published → List ℕ → ℕ → ℕ → ℕ → Bool
may_name_literal p words process old value =
    not (names_literal value (serial_in value)) || names_literal old (serial_in value) || is_key_area p (serial_in value) || is_framed words process (serial_in value) ANCHORS

-- an anchor may be stored by a process under this generation
abbrev pub may_store_anchor : Table → ℕ → ℕ → ℕ → Published → Bool
may_store_anchor s process place value p =
    ((value == 0) || not (stands_elsewhere s.words process place (serial_in value) ANCHORS)) && may_name_frame p (word_at s.words (slot_place process place)) value && may_name_literal p s.words process (word_at s.words (slot_place process place)) value

-- a word of a slot may be stored by a process under this generation; the turns done may be any number
abbrev pub may_store_slot : Table → ℕ → ℕ → ℕ → Option Published → Bool
may_store_slot s process place value None = false
may_store_slot s process place value (Some p) = (place == 0) || may_store_anchor s process place value p
