-- What blocks are used for once areas were taken, one after another.
use Rattle.std.proofs.Common.{◌≡◌, ℕ, zero, suc, ◌+◌, ◌<◌, ◌⊎◌, inl, inr, Bool, true, false, List, [], ◌∷◌, Some, refl, sym, ap, ◌∙◌, arith}
use Rattle.std.specs.Prelude.{◌==◌, slice_get}
use Rattle.std.proofs.lemmas.Bool.{eqb-true, eq-eqb, lt-ltb, true≢false}
use Rattle.term_core.specs.declared.area.AreaRef.{AreaRef}
use Rattle.literal_areas.specs.declared.areas.Areas.{Areas}
use Rattle.literal_areas.specs.declared.blocks.BlockUse.{BlockUse}
use Rattle.literal_areas.specs.declared.blocks.BlockUse.TheVariants.{Free, Live}
use Rattle.literal_areas.specs.Blocks.{use_of, with_area}
use Rattle.literal_areas.proofs.Uses.{use_here, use_other}
use Rattle.literal_areas.proofs.Serials.{use_after}
use Rattle.prgr_core.proofs.Parts.{some_same}
use Rattle.staging.specs.Placed.{AreTaken, with_areas}
use Rattle.staging.specs.Standing.{retire_word_of}

-- the block is that of an area that was taken
pub record IsTakenAt (taken : List AreaRef) (block : ℕ) (u : BlockUse) : Type 0 where
  pub place : ℕ
  pub area : AreaRef
  pub at : slice_get taken place ≡ Some area
  pub block_is : block ≡ area.block
  pub used : u ≡ Live area.serial

-- a block is used as before, or has an area that was taken
pub used_after : (taken : List AreaRef) (pools : Areas) (block : ℕ) (u : BlockUse) → AreTaken taken pools → use_of (with_areas taken pools) block ≡ Some u → (use_of pools block ≡ Some u) ⊎ IsTakenAt taken block u
used_after [] pools block u were is = inl is
used_after (a ∷ taken) pools block u were is =
    elim (used_after taken (with_area a pools) block u were.2 is) as (λ _. (use_of pools block ≡ Some u) ⊎ IsTakenAt (a ∷ taken) block u) [
      | inl before ↦
          elim (use_after pools a.block block Free (Live a.serial) u were.1 before) as (λ _. (use_of pools block ≡ Some u) ⊎ IsTakenAt (a ∷ taken) block u) [
            | inl here ↦ inr (record { place = 0; area = a; at = refl; block_is = here.0; used = here.1 })
            | inr other ↦ inl other.1
          ]
      | inr later ↦ inr (record { place = suc later.place; area = later.area; at = later.at; block_is = later.block_is; used = later.used })
    ]

-- a block that was used stays so
pub used_stays : (taken : List AreaRef) (pools : Areas) (block : ℕ) (u : BlockUse) → AreTaken taken pools → (u ≡ Free → ⊥) → use_of pools block ≡ Some u → use_of (with_areas taken pools) block ≡ Some u
used_stays [] pools block u were some is = is
used_stays (a ∷ taken) pools block u were some is =
    used_stays taken (with_area a pools) block u were.2 some
    (use_other pools a.block block Free (Live a.serial) were.1 (λ same. some (some_same u Free (sym is ∙ ap (use_of pools) same ∙ were.1))) ∙ is)

-- the block of each was free
pub taken_free : (taken : List AreaRef) (pools : Areas) (i : ℕ) (area : AreaRef) → AreTaken taken pools → slice_get taken i ≡ Some area → use_of pools area.block ≡ Some Free
taken_free [] pools i area were at = absurd (cc)
taken_free (a ∷ taken) pools zero area were at = ap (λ (x : AreaRef). use_of pools x.block) (sym (some_same a area at)) ∙ were.1
taken_free (a ∷ taken) pools (suc i) area were at =
    elim (use_after pools a.block area.block Free (Live a.serial) Free were.1 (taken_free taken (with_area a pools) i area were.2 at)) as (λ _. use_of pools area.block ≡ Some Free) [
      | inl here ↦ absurd (let same = here.1 in cc)
      | inr other ↦ other.1
    ]

-- each has the next serial and its place
pub serial_taken : (taken : List AreaRef) (pools : Areas) (i : ℕ) (area : AreaRef) → AreTaken taken pools → slice_get taken i ≡ Some area → area.serial ≡ pools.next + i
serial_taken [] pools i area were at = absurd (cc)
serial_taken (a ∷ taken) pools zero area were at = let first = were.0 in let same = ap (λ (x : AreaRef). x.serial) (some_same a area at) in omega (arith, first, same)
serial_taken (a ∷ taken) pools (suc i) area were at = let behind = serial_taken taken (with_area a pools) i area were.2 at in omega (arith, behind)

-- no retire word is another
one_alike : (a : AreaRef) (pools : Areas) (block : ℕ) → use_of pools a.block ≡ Some Free → retire_word_of (use_of (with_area a pools) block) ≡ retire_word_of (use_of pools block)
one_alike a pools block free = by (block == a.block) refl
  where
    by : (b : Bool) → (block == a.block) ≡ b → retire_word_of (use_of (with_area a pools) block) ≡ retire_word_of (use_of pools block)
    by true e =
        let same : block ≡ a.block = eqb-true block a.block e in
        ap (λ (k : ℕ). retire_word_of (use_of (with_area a pools) k)) same ∙ ap retire_word_of (use_here pools a.block Free (Live a.serial) free) ∙ sym (ap (λ (k : ℕ). retire_word_of (use_of pools k)) same ∙ ap retire_word_of free)
    by false e = ap retire_word_of (use_other pools a.block block Free (Live a.serial) free (λ same. true≢false (sym (eq-eqb block a.block same) ∙ e)))

pub retire_alike : (taken : List AreaRef) (pools : Areas) (block : ℕ) → AreTaken taken pools → retire_word_of (use_of (with_areas taken pools) block) ≡ retire_word_of (use_of pools block)
retire_alike [] pools block were = refl
retire_alike (a ∷ taken) pools block were = retire_alike taken (with_area a pools) block were.2 ∙ one_alike a pools block were.1

-- areas in big blocks take no small one
pub small_same : (taken : List AreaRef) (pools : Areas) → ((i : ℕ) (a : AreaRef) → slice_get taken i ≡ Some a → a.block < 64) → (with_areas taken pools).small ≡ pools.small
small_same [] pools low = refl
small_same (a ∷ taken) pools low = small_same taken (with_area a pools) (λ i x at. low (suc i) x at) ∙ one_small a pools (low 0 a refl)
  where
    one_small : (a : AreaRef) (pools : Areas) → a.block < 64 → (with_area a pools).small ≡ pools.small
    one_small a pools few = rw (lt-ltb a.block 64 few) refl
