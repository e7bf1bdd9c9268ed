-- What a published generation says of areas, functions and keys, and which words stand for that.
-- Plain lists and serials; the words have blocks.
use Rattle.std.specs.Prelude.{ℕ, ◌+◌, ◌-◌, ◌*◌, ◌/◌, ◌%◌, ◌==◌, Bool, true, false, not, ◌&&◌, ◌||◌, nat_lt, nat_le, if◌then◌else◌, List, [], ◌∷◌, Option, Some, None, slice_get, unwrap_or}
use Rattle.std.specs.List.{list_any}
use Rattle.term_core.specs.declared.area.AreaRef.{AreaRef}
use Rattle.term_core.specs.declared.generation.FunctionRef.{FunctionRef}
use Rattle.term_core.specs.declared.generation.Holding.{Holding}
use Rattle.term_core.specs.declared.generation.Holding.TheVariants.{Word, Area}
use Rattle.term_core.specs.declared.generation.AreaWords.{AreaWords}
use Rattle.area_core.specs.declared.map.TheConstants.{BIG_BLOCKS}
use Rattle.area_core.specs.declared.table.Published.{Published}
use Rattle.area_core.specs.declared.table.KeptArea.{KeptArea}

-- ---- areas

-- the serial is one of these
abbrev pub has_serial : List ℕ → ℕ → Bool
has_serial serials serial = list_any (λ x. x == serial) serials

-- the instance is current
abbrev pub is_current : Published → ℕ → Bool
is_current p serial = has_serial p.state.current serial

-- the instance is current or old
abbrev pub is_instance : Published → ℕ → Bool
is_instance p serial = has_serial p.state.current serial || has_serial p.state.old serial

-- what a key holds is this area
abbrev pub holds_area : ℕ → Holding → Bool
holds_area serial (Word value) = false
holds_area serial (Area held) = held == serial

-- the area is that of a key
abbrev pub is_key_area : Published → ℕ → Bool
is_key_area p serial = list_any (λ k. holds_area serial k.holding) p.state.keys

-- a turn may come to the area by an external call or by a key
abbrev pub is_reached : Published → ℕ → Bool
is_reached p serial = is_current p serial || is_key_area p serial

-- the area is a current or old instance or that of a key
abbrev pub is_used : Published → ℕ → Bool
is_used p serial = is_instance p serial || is_key_area p serial

-- the area was dropped
abbrev pub is_retired_area : Published → ℕ → Bool
is_retired_area p serial = has_serial p.state.retired serial

-- the instance is purged, so that processes that stand in it end
abbrev pub is_doomed_area : Published → ℕ → Bool
is_doomed_area p serial = has_serial p.state.doomed serial

-- calls of the function are traced
abbrev pub is_traced_function : Published → ℕ → ℕ → Bool
is_traced_function p serial function = list_any (λ f. (f.serial == serial) && (f.function == function)) p.state.traced

-- the area of this serial has this block
abbrev pub has_area : List AreaRef → ℕ → ℕ → Bool
has_area areas serial block = list_any (λ a. (a.serial == serial) && (a.block == block)) areas

-- the words are these
abbrev pub same_words : List ℕ → List ℕ → Bool
same_words [] [] = true
same_words [] (y ∷ ys) = false
same_words (x ∷ xs) [] = false
same_words (x ∷ xs) (y ∷ ys) = (x == y) && same_words xs ys

-- the area of this serial has this image
abbrev pub has_image : List AreaWords → ℕ → List ℕ → Bool
has_image areas serial words = list_any (λ a. (a.serial == serial) && same_words a.words words) areas

-- the kept area is that of the generation: in its block, and with its image
abbrev pub is_kept_as : Published → ℕ → KeptArea → Bool
is_kept_as p serial k = (k.area.serial == serial) && has_area p.areas serial k.area.block && has_image p.state.areas serial k.words

-- an area of this serial is kept
abbrev pub is_kept : List KeptArea → ℕ → Bool
is_kept kept serial = list_any (λ k. k.area.serial == serial) kept

-- ---- images of instances

-- how many functions the image of an instance has
abbrev pub functions_in_image : List ℕ → ℕ
functions_in_image words = unwrap_or (slice_get words 3) 0

-- the area is an instance, by its block, and has this function
abbrev pub has_function : KeptArea → ℕ → Bool
has_function k function = nat_lt k.area.block BIG_BLOCKS && nat_lt function (functions_in_image k.words)

-- this word of the area is the entry word of a function
abbrev pub is_entry_word : KeptArea → ℕ → Bool
is_entry_word k at = nat_le 6 at && (at % 4 == 2) && has_function k (at / 4 - 1)

-- ---- words

-- the word of a code index that leads to a function of the instance in this block
abbrev pub leads_to : FunctionRef → AreaRef → ℕ → Bool
leads_to to a word = (a.serial == to.serial) && (word == 1 + a.block * 16 + to.function)

-- the word of a code index that stands for what a function name reaches
abbrev pub is_code_word : Published → Option (Option FunctionRef) → ℕ → Bool
is_code_word p None word = word == 0
is_code_word p (Some None) word = word == 0
is_code_word p (Some (Some to)) word = list_any (λ a. leads_to to a word) p.areas

-- the word of a breakpoint index that stands for whether a function is traced
abbrev pub traced_word : Published → ℕ → ℕ → ℕ
traced_word p serial function = if is_traced_function p serial function then 1 else 0

-- the word of a term table that leads to an area
abbrev pub is_area_word : AreaRef → ℕ → Bool
is_area_word a word = (word % 16 == 5) && (word / 16 % 512 == a.block) && (word / 8192 == a.serial)

-- the word of a term table that stands for what a key holds
abbrev pub is_term_word : Published → Holding → ℕ → Bool
is_term_word p (Word value) word = word == value
is_term_word p (Area serial) word = list_any (λ a. (a.serial == serial) && is_area_word a word) p.areas

-- a retire or doom word tells that something is so under generation g
abbrev pub tells : ℕ → ℕ → Bool
tells word g = not (word == 0) && nat_le word g

-- both are so, or neither
abbrev pub are_alike : Bool → Bool → Bool
are_alike true other = other
are_alike false other = not other

-- ---- anchors

-- the serial of the area that an anchor tells of
abbrev pub serial_in : ℕ → ℕ
serial_in word = word / 4

-- an anchor names an area, and does not only tell of a kill
abbrev pub is_naming : ℕ → Bool
is_naming word = not (word % 4 == 0)

-- an anchor names this area
abbrev pub anchor_names_area : ℕ → ℕ → Bool
anchor_names_area word serial = is_naming word && (serial_in word == serial)

-- an anchor names this area for a frame
abbrev pub names_frame : ℕ → ℕ → Bool
names_frame word serial = (word % 2 == 1) && (serial_in word == serial)

-- an anchor names this area for a literal
abbrev pub names_literal : ℕ → ℕ → Bool
names_literal word serial = nat_le 2 (word % 4) && (serial_in word == serial)
