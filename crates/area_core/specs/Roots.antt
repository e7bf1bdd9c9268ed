-- When a store of the root keeps the block invariant: what its blocks and areas must stand for before it.
use Rattle.std.specs.Prelude.{ℕ, zero, suc, ◌==◌, Bool, true, not, ◌&&◌, ◌||◌, nat_lt, nat_le, if◌then◌else◌, List, [], ◌∷◌, ◌++◌, length, Option, Some, None, slice_get}
use Rattle.std.specs.List.{list_any, list_all, flat_map}
use Rattle.std.specs.Option.{option_map, option_to_list}
use Rattle.term_core.specs.declared.area.AreaRef.{AreaRef}
use Rattle.term_core.specs.declared.generation.AreaWords.{AreaWords}
use Rattle.term_core.specs.declared.generation.Holding.{Holding}
use Rattle.term_core.specs.declared.generation.Holding.TheVariants.{Word, Area}
use Rattle.area_core.specs.declared.map.TheConstants.{BLOCKS, BIG_BLOCKS, BIG_WORDS, CODE_INDICES, BREAKPOINT_INDICES, TERM_TABLES, AREAS_START, EXPORT_ENTRIES, FUNCTIONS}
use Rattle.area_core.specs.declared.table.Root.{Root}
use Rattle.area_core.specs.declared.table.Published.{Published}
use Rattle.area_core.specs.declared.table.KeptArea.{KeptArea}
use Rattle.area_core.specs.Map.{word_at, block_place, breakpoint_place, image_entry_at, retire_place, doom_place, room_of}
use Rattle.area_core.specs.Generations.{is_instance, is_retired_area, is_doomed_area, is_traced_function, is_kept, is_kept_as, functions_in_image, has_function, is_entry_word, is_code_word, traced_word, tells, are_alike}
use Rattle.area_core.specs.Terms.{terms_stand}
use Rattle.area_core.specs.Blocks.{term_blocks_words}
use Rattle.area_core.specs.Readers.{holds_of_each}
use Rattle.area_core.specs.Stores.{is_image_word}

-- the root names blocks that there are
abbrev pub root_fits : Root → Bool
root_fits root = nat_lt root.code CODE_INDICES && nat_lt root.bp BREAKPOINT_INDICES && nat_lt root.term TERM_TABLES

-- the block is one for instances
abbrev pub is_for_instances : ℕ → Bool
is_for_instances block = nat_le AREAS_START block && nat_lt block BIG_BLOCKS

-- each current or old instance stands in a block for instances
abbrev pub instances_placed : Published → Bool
instances_placed p = list_all (λ a. not (is_instance p a.serial) || is_for_instances a.block) p.areas

-- ---- its blocks

-- the first so many words of the code index lead function names to what they reach
unfoldable pub code_stands : List ℕ → Published → ℕ → Bool
code_stands words p zero = true
code_stands words p (suc n) =
    code_stands words p n && is_code_word p (slice_get p.state.exports n) (word_at words (block_place p.root.code n))

-- the breakpoint words of the first so many functions of an area say whether they are traced
unfoldable pub traces_stand : List ℕ → Published → AreaRef → ℕ → Bool
traces_stand words p a zero = true
traces_stand words p a (suc n) =
    traces_stand words p a n && (word_at words (breakpoint_place p.root.bp a.block n) == traced_word p a.serial n)

-- so for each current or old instance
abbrev pub breakpoints_stand : List ℕ → Published → Bool
breakpoints_stand words p = list_all (λ a. not (is_instance p a.serial) || traces_stand words p a FUNCTIONS) p.areas

-- the blocks of the root stand for the generation
abbrev pub blocks_stand : List ℕ → Published → Bool
blocks_stand words p =
    code_stands words p EXPORT_ENTRIES && breakpoints_stand words p && terms_stand (term_blocks_words (word_at words) p.root) p

-- ---- its areas

-- the image of this serial, if there is one
abbrev pub serial_image : List AreaWords → ℕ → Option (List ℕ)
serial_image [] serial = None
serial_image (a ∷ areas) serial = if a.serial == serial then Some a.words else serial_image areas serial

-- an area that is not kept yet is kept from now on, with its image
abbrev pub fresh_area : List KeptArea → List AreaWords → AreaRef → Option KeptArea
fresh_area kept areas a =
    if is_kept kept a.serial then None else option_map (λ words. record { area = a; words = words }) (serial_image areas a.serial)

-- the same as a list of at most one
abbrev pub fresh_in : List KeptArea → List AreaWords → AreaRef → List KeptArea
fresh_in kept areas a = option_to_list (fresh_area kept areas a)

-- the areas that are kept from now on
abbrev pub fresh_areas : List KeptArea → Published → List KeptArea
fresh_areas kept p = flat_map (fresh_in kept p.state.areas) p.areas

-- the area has a block with room for it
abbrev pub fits_block : KeptArea → Bool
fits_block k =
    nat_le AREAS_START k.area.block && nat_lt k.area.block BLOCKS && nat_le (length k.words) (room_of k.area.block) && (not (nat_lt k.area.block BIG_BLOCKS) || nat_le (functions_in_image k.words) FUNCTIONS)

-- the areas differ in serial and block
abbrev pub is_apart : KeptArea → KeptArea → Bool
is_apart a b = not (a.area.serial == b.area.serial) && not (a.area.block == b.area.block)

-- each of these areas is apart from those before it, and from the others
abbrev pub are_apart : List KeptArea → List KeptArea → Bool
are_apart kept [] = true
are_apart kept (k ∷ fresh) = list_all (is_apart k) kept && list_all (is_apart k) fresh && are_apart kept fresh

-- the first so many words of the block are those of the image, as far as it goes, apart from entry words
unfoldable pub image_stands : List ℕ → KeptArea → ℕ → Bool
image_stands words k zero = true
image_stands words k (suc n) =
    image_stands words k n && (is_entry_word k n || is_image_word (slice_get k.words n) (word_at words (block_place k.area.block n)))

-- the entry words of the first so many functions are 0 only where the generation does not trace them
unfoldable pub entries_stand : List ℕ → KeptArea → Published → ℕ → Bool
entries_stand words k p zero = true
entries_stand words k p (suc n) =
    entries_stand words k p n && (not (has_function k n) || not (word_at words (block_place k.area.block (image_entry_at n)) == 0) || not (is_traced_function p k.area.serial n))

-- the retire word tells whether the area is retired
abbrev pub retire_tells : List ℕ → KeptArea → ℕ → Published → Bool
retire_tells words k g p = are_alike (tells (word_at words (retire_place k.area.block)) g) (is_retired_area p k.area.serial)

-- the doom word of an instance that is not retired tells whether it is doomed
abbrev pub doom_tells : List ℕ → KeptArea → ℕ → Published → Bool
doom_tells words k g p =
    not (nat_lt k.area.block BIG_BLOCKS) || is_retired_area p k.area.serial || are_alike (tells (word_at words (doom_place k.area.block)) g) (is_doomed_area p k.area.serial)

-- entry, retire and doom words tell of the generation
abbrev pub area_stands : List ℕ → KeptArea → ℕ → Published → Bool
area_stands words k g p = entries_stand words k p FUNCTIONS && retire_tells words k g p && doom_tells words k g p

-- what an area that is kept from now on must meet: room, its image, and the words that tell of it under each generation
-- that a thread may still read
abbrev pub is_fresh_sound : List ℕ → List Published → List ℕ → KeptArea → Bool
is_fresh_sound words published generations k =
    fits_block k && image_stands words k BIG_WORDS && holds_of_each published generations (λ g p. area_stands words k g p)

-- the area of a key is kept
abbrev pub is_holding_kept : List KeptArea → Published → Holding → Bool
is_holding_kept kept p (Word value) = true
is_holding_kept kept p (Area serial) = list_any (is_kept_as p serial) kept

-- each area that the generation uses is kept, in its block and with its image
abbrev pub used_are_kept : List KeptArea → Published → Bool
used_are_kept kept p =
    list_all (λ serial. list_any (is_kept_as p serial) kept) p.state.current && list_all (λ serial. list_any (is_kept_as p serial) kept) p.state.old && list_all (λ k. is_holding_kept kept p k.holding) p.state.keys

-- what the store of the root asks: of the words, what was published, the generations that may still be read, what is
-- kept, the new generation's number, and what it publishes
abbrev pub may_publish : List ℕ → List Published → List ℕ → List KeptArea → ℕ → Published → Bool
may_publish words published generations kept g p =
    root_fits p.root && instances_placed p && blocks_stand words p && list_all (is_fresh_sound words published generations) (fresh_areas kept p) && are_apart kept (fresh_areas kept p) && used_are_kept (kept ++ fresh_areas kept p) p && list_all (λ k. area_stands words k g p) (kept ++ fresh_areas kept p)
