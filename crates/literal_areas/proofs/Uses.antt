-- What a block is used for, before and after one of them has another use.
use Rattle.std.proofs.Common.{◌≡◌, ℕ, zero, suc, ◌-◌, ◌<◌, ◌≤◌, inl, inr, List, [], ◌∷◌, length, length-set, refl, sym, ap, ◌∙◌, arith}
use Rattle.std.specs.Prelude.{Some, None, slice_get, slice_set}
use Rattle.std.proofs.lemmas.Bool.{cases_lt, lt-ltb, le-ltb}
use Rattle.std.proofs.lemmas.Option.{none-some, slice_get_within}
use Rattle.literal_areas.specs.declared.blocks.BlockUse.{BlockUse}
use Rattle.literal_areas.specs.declared.areas.Areas.{Areas}
use Rattle.literal_areas.specs.Blocks.{use_of, with_use, HasSizes}

-- ---- lists

pub set_here : {X : Type 0} (xs : List X) (k : ℕ) (x : X) → k < length xs → slice_get (slice_set xs k x) k ≡ Some x
set_here [] k x within = absurd (omega (arith))
set_here (z ∷ zs) zero x within = refl
set_here (z ∷ zs) (suc k) x within = set_here zs k x (omega (arith))

pub set_there : {X : Type 0} (xs : List X) (k j : ℕ) (x : X) → (j ≡ k → ⊥) → slice_get (slice_set xs k x) j ≡ slice_get xs j
set_there [] k j x differ = refl
set_there (z ∷ zs) zero zero x differ = absurd (differ refl)
set_there (z ∷ zs) zero (suc j) x differ = refl
set_there (z ∷ zs) (suc k) zero x differ = refl
set_there (z ∷ zs) (suc k) (suc j) x differ = set_there zs k j x (λ same. differ (ap suc same))

-- ---- one block

-- a block for an instance
pub use_big : (s : Areas) (block : ℕ) → 9 ≤ block → block < 64 → use_of s block ≡ slice_get s.big (block - 9)
use_big s block high low = rw (le-ltb block 9 high, lt-ltb block 64 low) refl

-- a block for a term
pub use_small : (s : Areas) (block : ℕ) → 64 ≤ block → use_of s block ≡ slice_get s.small (block - 64)
use_small s block high =
    let higher : 9 ≤ block = omega (arith) in
    rw (le-ltb block 9 higher, le-ltb block 64 high) refl

-- a block for neither
pub use_none : (s : Areas) (block : ℕ) → block < 9 → use_of s block ≡ None
use_none s block low = rw (lt-ltb block 9 low) refl

-- a block with a use is one for areas
pub use_there : (s : Areas) (block : ℕ) (used : BlockUse) → use_of s block ≡ Some used → 9 ≤ block
use_there s block used is =
    elim (cases_lt block 9) as (λ _. 9 ≤ block) [
      | inl low ↦ absurd (none-some used (sym (use_none s block low) ∙ is))
      | inr high ↦ high
    ]

-- and there are so many
pub use_within : (s : Areas) (block : ℕ) (used : BlockUse) → HasSizes s → use_of s block ≡ Some used → block < 320
use_within s block used sizes is =
    elim (cases_lt block 64) as (λ _. block < 320) [
      | inl low ↦ omega (arith)
      | inr high ↦ (
          let small : length s.small ≡ 256 = sizes.small in
          let within = slice_get_within s.small (block - 64) used (sym (use_small s block high) ∙ is) in
          omega (arith, within, small))
    ]

-- ---- another use

big_set : (s : Areas) (block : ℕ) (used : BlockUse) → block < 64 → (with_use block used s).big ≡ slice_set s.big (block - 9) used
big_set s block used low = rw (lt-ltb block 64 low) refl

big_left : (s : Areas) (block : ℕ) (used : BlockUse) → 64 ≤ block → (with_use block used s).big ≡ s.big
big_left s block used high = rw (le-ltb block 64 high) refl

small_set : (s : Areas) (block : ℕ) (used : BlockUse) → 64 ≤ block → (with_use block used s).small ≡ slice_set s.small (block - 64) used
small_set s block used high = rw (le-ltb block 64 high) refl

small_left : (s : Areas) (block : ℕ) (used : BlockUse) → block < 64 → (with_use block used s).small ≡ s.small
small_left s block used low = rw (lt-ltb block 64 low) refl

-- the block has the new use
pub use_here : (s : Areas) (block : ℕ) (old used : BlockUse) → use_of s block ≡ Some old → use_of (with_use block used s) block ≡ Some used
use_here s block old used is =
    let high = use_there s block old is in
    elim (cases_lt block 64) as (λ _. use_of (with_use block used s) block ≡ Some used) [
      | inl low ↦
          use_big (with_use block used s) block high low ∙ ap (λ (xs : List BlockUse). slice_get xs (block - 9)) (big_set s block used low)
          ∙ set_here s.big (block - 9) used (slice_get_within s.big (block - 9) old (sym (use_big s block high low) ∙ is))
      | inr over ↦
          use_small (with_use block used s) block over ∙ ap (λ (xs : List BlockUse). slice_get xs (block - 64)) (small_set s block used over)
          ∙ set_here s.small (block - 64) used (slice_get_within s.small (block - 64) old (sym (use_small s block over) ∙ is))
    ]

off_big : (a b : ℕ) → (b ≡ a → ⊥) → 9 ≤ a → 9 ≤ b → b - 9 ≡ a - 9 → ⊥
off_big a b differ high other same = differ (omega (arith))

off_small : (a b : ℕ) → (b ≡ a → ⊥) → 64 ≤ a → 64 ≤ b → b - 64 ≡ a - 64 → ⊥
off_small a b differ high other same = differ (omega (arith))

-- the lists at another block
big_other : (s : Areas) (a b : ℕ) (used : BlockUse) → 9 ≤ a → 9 ≤ b → (b ≡ a → ⊥) → slice_get (with_use a used s).big (b - 9) ≡ slice_get s.big (b - 9)
big_other s a b used high other differ =
    elim (cases_lt a 64) as (λ _. slice_get (with_use a used s).big (b - 9) ≡ slice_get s.big (b - 9)) [
      | inl low ↦ ap (λ (xs : List BlockUse). slice_get xs (b - 9)) (big_set s a used low) ∙ set_there s.big (a - 9) (b - 9) used (off_big a b differ high other)
      | inr over ↦ ap (λ (xs : List BlockUse). slice_get xs (b - 9)) (big_left s a used over)
    ]

small_other : (s : Areas) (a b : ℕ) (used : BlockUse) → 64 ≤ b → (b ≡ a → ⊥) → slice_get (with_use a used s).small (b - 64) ≡ slice_get s.small (b - 64)
small_other s a b used other differ =
    elim (cases_lt a 64) as (λ _. slice_get (with_use a used s).small (b - 64) ≡ slice_get s.small (b - 64)) [
      | inl low ↦ ap (λ (xs : List BlockUse). slice_get xs (b - 64)) (small_left s a used low)
      | inr over ↦ ap (λ (xs : List BlockUse). slice_get xs (b - 64)) (small_set s a used over) ∙ set_there s.small (a - 64) (b - 64) used (off_small a b differ over other)
    ]

-- each other block has the use that it had
pub use_other : (s : Areas) (a b : ℕ) (old used : BlockUse) → use_of s a ≡ Some old → (b ≡ a → ⊥) → use_of (with_use a used s) b ≡ use_of s b
use_other s a b old used is differ =
    let high = use_there s a old is in
    elim (cases_lt b 9) as (λ _. use_of (with_use a used s) b ≡ use_of s b) [
      | inl none ↦ use_none (with_use a used s) b none ∙ sym (use_none s b none)
      | inr some ↦ elim (cases_lt b 64) as (λ _. use_of (with_use a used s) b ≡ use_of s b) [
        | inl low ↦ use_big (with_use a used s) b some low ∙ big_other s a b used high some differ ∙ sym (use_big s b some low)
        | inr over ↦ use_small (with_use a used s) b over ∙ small_other s a b used over differ ∙ sym (use_small s b over)
      ]
    ]

-- the pools have as many blocks
pub sizes_stay : (s : Areas) (block : ℕ) (used : BlockUse) → HasSizes s → HasSizes (with_use block used s)
sizes_stay s block used sizes =
    elim (cases_lt block 64) as (λ _. HasSizes (with_use block used s)) [
      | inl low ↦ record {
        big = ap (λ (xs : List BlockUse). length xs) (big_set s block used low) ∙ length-set s.big (block - 9) used ∙ sizes.big;
        small = ap (λ (xs : List BlockUse). length xs) (small_left s block used low) ∙ sizes.small;
      }
      | inr over ↦ record {
        big = ap (λ (xs : List BlockUse). length xs) (big_left s block used over) ∙ sizes.big;
        small = ap (λ (xs : List BlockUse). length xs) (small_set s block used over) ∙ length-set s.small (block - 64) used ∙ sizes.small;
      }
    ]
