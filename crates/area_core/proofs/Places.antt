-- The map of words parts the table: each word is of one kind, and its kind tells its place.
use Rattle.std.proofs.Common.{◌≡◌, ℕ, zero, suc, ◌+◌, ◌-◌, ◌*◌, ◌/◌, ◌%◌, ◌<◌, ◌≤◌, List, [], ◌∷◌, length, inl, inr, refl, ap, ◌∙◌, sym, arith}
use Rattle.std.specs.Prelude.{slice_set}
use Rattle.std.proofs.lemmas.Bool.{cases_lt}
use Rattle.std.proofs.lemmas.Bool.Decides.{nat_tests}
use Rattle.area_core.specs.declared.map.TheConstants.{BLOCKS, BIG_BLOCKS, PROCESSES, ANCHORS}
use Rattle.area_core.specs.declared.map.WordKind.{WordKind}
use Rattle.area_core.specs.declared.map.WordKind.TheVariants.{Slot, Retire, Doom, InBlock}
use Rattle.area_core.specs.Map.{word_at, kind_at, block_place, retire_place, doom_place, slot_place, room_of}

-- ---- the kind of a place

big_row : (block at : ℕ) → at < 1024 → (1493 + block * 1024 + at - 1493) / 1024 ≡ block
big_row block at small = omega (arith)

big_column : (block at : ℕ) → at < 1024 → (1493 + block * 1024 + at - 1493) % 1024 ≡ at
big_column block at small = omega (arith)

small_row : (block at : ℕ) → 64 ≤ block → at < 64 → 64 + (67029 + (block - 64) * 64 + at - 67029) / 64 ≡ block
small_row block at small last = omega (arith)

small_column : (block at : ℕ) → 64 ≤ block → at < 64 → (67029 + (block - 64) * 64 + at - 67029) % 64 ≡ at
small_column block at small last = omega (arith)

kind_big : (word block at : ℕ) → 1493 ≤ word → word < 67029 → (word - 1493) / 1024 ≡ block → (word - 1493) % 1024 ≡ at → kind_at word ≡ InBlock block at
kind_big word block at low high row column = grind (arith, nat_tests)

kind_small : (word block at : ℕ) → 67029 ≤ word → word < 83413 → 64 + (word - 67029) / 64 ≡ block → (word - 67029) % 64 ≡ at → kind_at word ≡ InBlock block at
kind_small word block at low high row column = grind (arith, nat_tests)

place_big : (block at : ℕ) → block < 64 → block_place block at ≡ 1493 + block * 1024 + at
place_big block at big = grind (arith, nat_tests)

place_small : (block at : ℕ) → 64 ≤ block → block_place block at ≡ 67029 + (block - 64) * 64 + at
place_small block at small = grind (arith, nat_tests)

room_big : (block at : ℕ) → block < 64 → at < room_of block → at < 1024
room_big block at big room = grind (arith, nat_tests)

room_small : (block at : ℕ) → 64 ≤ block → at < room_of block → at < 64
room_small block at small room = grind (arith, nat_tests)

-- a word of a block, within the block's room, is a word of that block
pub kind_block : (block at : ℕ) → block < BLOCKS → at < room_of block → kind_at (block_place block at) ≡ InBlock block at
kind_block block at fits room =
    elim (cases_lt block 64) as (λ _. kind_at (block_place block at) ≡ InBlock block at) [
      | inl big ↦
          let small = room_big block at big room in
          ap kind_at (place_big block at big) ∙ kind_big (1493 + block * 1024 + at) block at (omega (arith)) (omega (arith)) (big_row block at small) (big_column block at small)
      | inr after ↦
          let small = room_small block at after room in
          ap kind_at (place_small block at after) ∙ kind_small (67029 + (block - 64) * 64 + at) block at (omega (arith)) (omega (arith)) (small_row block at after small) (small_column block at after small)
    ]

-- a retire word is that of its block
pub kind_retire : (block : ℕ) → block < BLOCKS → kind_at (retire_place block) ≡ Retire block
kind_retire block fits = retire_word (1109 + block) block refl fits where
  retire_word : (word block : ℕ) → word ≡ 1109 + block → block < 320 → kind_at word ≡ Retire block
  retire_word word block is fits = let back : word - 1109 ≡ block = omega (arith) in grind (arith, nat_tests)

-- a doom word is that of its block
pub kind_doom : (block : ℕ) → block < BIG_BLOCKS → kind_at (doom_place block) ≡ Doom block
kind_doom block fits = doom_word (1429 + block) block refl fits where
  doom_word : (word block : ℕ) → word ≡ 1429 + block → block < 64 → kind_at word ≡ Doom block
  doom_word word block is fits = let back : word - 1429 ≡ block = omega (arith) in grind (arith, nat_tests)

-- a word of a slot is one
pub kind_slot : (process place : ℕ) → process < PROCESSES → place ≤ ANCHORS → kind_at (slot_place process place) ≡ Slot
kind_slot process place slot last = slot_word (21 + process * 17 + place) (omega (arith)) (omega (arith)) where
  slot_word : (word : ℕ) → 21 ≤ word → word < 1109 → kind_at word ≡ Slot
  slot_word word low high = grind (arith, nat_tests)

-- ---- the place of a kind

-- a word of a block stands at the block's place, within its room
pub kind_place : (word block at : ℕ) → kind_at word ≡ InBlock block at → (word ≡ block_place block at) × (block < BLOCKS) × (at < room_of block)
kind_place word block at is =
    elim (cases_lt word 67029) as (λ _. (word ≡ block_place block at) × (block < BLOCKS) × (at < room_of block)) [
      | inl below ↦
          let low : 1493 ≤ word = grind (arith, nat_tests) in
          let kind = sym is ∙ kind_big word ((word - 1493) / 1024) ((word - 1493) % 1024) low below refl refl in
          of_big word block at low below (ap block_in kind) (ap at_in kind)
      | inr behind ↦
          let high : word < 83413 = grind (arith, nat_tests) in
          let kind = sym is ∙ kind_small word (64 + (word - 67029) / 64) ((word - 67029) % 64) behind high refl refl in
          of_small word block at behind high (ap block_in kind) (ap at_in kind)
    ]
  where
    block_in : WordKind → ℕ
    block_in (InBlock block at) = block
    block_in _ = 0

    at_in : WordKind → ℕ
    at_in (InBlock block at) = at
    at_in _ = 0

    of_big : (word block at : ℕ) → 1493 ≤ word → word < 67029 → block ≡ (word - 1493) / 1024 → at ≡ (word - 1493) % 1024 → (word ≡ block_place block at) × (block < 320) × (at < room_of block)
    of_big word block at low high row column =
        let big : block < 64 = omega (arith) in
        let small : at < 1024 = omega (arith) in
        let same : word ≡ 1493 + block * 1024 + at = omega (arith) in
        (same ∙ sym (place_big block at big), omega (arith), grind (arith, nat_tests))

    of_small : (word block at : ℕ) → 67029 ≤ word → word < 83413 → block ≡ 64 + (word - 67029) / 64 → at ≡ (word - 67029) % 64 → (word ≡ block_place block at) × (block < 320) × (at < room_of block)
    of_small word block at low high row column =
        let after : 64 ≤ block = omega (arith) in
        let small : at < 64 = omega (arith) in
        let same : word ≡ 67029 + (block - 64) * 64 + at = omega (arith) in
        (same ∙ sym (place_small block at after), omega (arith), grind (arith, nat_tests))

-- a retire word stands at its block's place
pub kind_retire_place : (word block : ℕ) → kind_at word ≡ Retire block → (word ≡ retire_place block) × (block < BLOCKS)
kind_retire_place word block is =
    let low : 1109 ≤ word = grind (arith, nat_tests) in
    let high : word < 1429 = grind (arith, nat_tests) in
    let same : word - 1109 ≡ block = grind (arith, nat_tests) in
    (omega (arith), omega (arith))

-- a doom word stands at its block's place
pub kind_doom_place : (word block : ℕ) → kind_at word ≡ Doom block → (word ≡ doom_place block) × (block < BIG_BLOCKS)
kind_doom_place word block is =
    let low : 1429 ≤ word = grind (arith, nat_tests) in
    let high : word < 1493 = grind (arith, nat_tests) in
    let same : word - 1429 ≡ block = grind (arith, nat_tests) in
    (omega (arith), omega (arith))

-- ---- places differ

-- two words of slots are different
pub slots_differ : (process place other also : ℕ) → place ≤ ANCHORS → also ≤ ANCHORS → slot_place process place ≡ slot_place other also → (process ≡ other) × (place ≡ also)
slots_differ process place other also last last_too same = (omega (arith), omega (arith))

-- ---- a write at a place

-- the word at the place is what was written
pub word_here : (words : List ℕ) (place value : ℕ) → place < length words → word_at (slice_set words place value) place ≡ value
word_here [] place value within = absurd (omega (arith))
word_here (x ∷ xs) zero value within = refl
word_here (x ∷ xs) (suc place) value within = word_here xs place value (omega (arith))

-- each other word is as before
pub word_there : (words : List ℕ) (place value other : ℕ) → (other ≡ place → ⊥) → word_at (slice_set words place value) other ≡ word_at words other
word_there [] place value other differ = refl
word_there (x ∷ xs) zero value zero differ = absurd (differ refl)
word_there (x ∷ xs) zero value (suc other) differ = refl
word_there (x ∷ xs) (suc place) value zero differ = refl
word_there (x ∷ xs) (suc place) value (suc other) differ = word_there xs place value other (λ same. differ (ap suc same))
