-- The areas of pools as a list: just those that stand in their blocks, in the order of these.
use Rattle.std.proofs.Common.{◌≡◌, ℕ, zero, suc, ◌+◌, ◌-◌, ◌<◌, ◌≤◌, ◌⊎◌, inl, inr, List, [], ◌∷◌, ◌++◌, Option, Some, None, refl, sym, ap, subst, ◌∙◌, arith}
use Rattle.std.specs.Prelude.{slice_get, option_and_then}
use Rattle.std.specs.Option.{option_map, option_to_list}
use Rattle.std.proofs.lemmas.Bool.{cases_lt}
use Rattle.term_core.specs.declared.area.AreaRef.{AreaRef}
use Rattle.area_core.specs.Blocks.{Among}
use Rattle.literal_areas.specs.declared.areas.Areas.{Areas}
use Rattle.literal_areas.specs.declared.blocks.BlockUse.{BlockUse}
use Rattle.literal_areas.specs.Blocks.{HasSizes, Stands, serial_of, use_of}
use Rattle.literal_areas.proofs.Uses.{use_big, use_small, use_none}
use Rattle.prgr_core.proofs.Parts.{some_same, and_then_some}
use Rattle.shared_words.proofs.ShownMembers.{still_at, within_get}
use Rattle.staging.specs.Upcoming.{areas_from, areas_in}

-- ---- among

pub among_left : {X : Type 0} (xs ys : List X) (x : X) → Among xs x → Among (xs ++ ys) x
among_left xs ys x at = (at.0, still_at xs ys at.0 x at.1)

pub among_right : {X : Type 0} (xs ys : List X) (x : X) → Among ys x → Among (xs ++ ys) x
among_right [] ys x at = at
among_right (y ∷ xs) ys x at = let behind = among_right xs ys x at in (suc behind.0, behind.1)

pub among_either : {X : Type 0} (xs ys : List X) (x : X) → Among (xs ++ ys) x → Among xs x ⊎ Among ys x
among_either [] ys x at = inr at
among_either (y ∷ xs) ys x (zero, here) = inl (0, here)
among_either (y ∷ xs) ys x (suc i, behind) =
    elim (among_either xs ys x (i, behind)) as (λ _. Among (y ∷ xs) x ⊎ Among ys x) [
      | inl first ↦ inl (suc first.0, first.1)
      | inr last ↦ inr last
    ]

-- ---- blocks from one on

abbrev at_block : ℕ → ℕ → AreaRef
at_block n block = record { serial = n; block = block }

abbrev one_area : ℕ → BlockUse → List AreaRef
one_area block used = option_to_list (option_map (λ serial. record { serial = serial; block = block }) (serial_of used))

one_listed : (block : ℕ) (o : Option ℕ) (n : ℕ) → o ≡ Some n → Among (option_to_list (option_map (λ serial. record { serial = serial; block = block }) o)) (at_block n block)
one_listed block None n e = absurd (cc)
one_listed block (Some k) n e = (0, ap (λ (x : ℕ). Some (at_block x block)) (some_same k n e))

pub listed_from : (uses : List BlockUse) (block k n : ℕ) (u : BlockUse) → slice_get uses k ≡ Some u → serial_of u ≡ Some n → Among (areas_from block uses) (at_block n (block + k))
listed_from [] block k n u at of = absurd (cc)
listed_from (v ∷ uses) block zero n u at of =
    let same : v ≡ u = some_same v u at in
    let there : serial_of v ≡ Some n = ap serial_of same ∙ of in
    let even : block ≡ block + 0 = omega (arith) in
    among_left (one_area block v) (areas_from (suc block) uses) (at_block n (block + 0))
    (subst (λ (b : ℕ). Among (one_area block v) (at_block n b)) even (one_listed block (serial_of v) n there))
listed_from (v ∷ uses) block (suc k) n u at of =
    let even : suc block + k ≡ block + suc k = omega (arith) in
    among_right (one_area block v) (areas_from (suc block) uses) (at_block n (block + suc k))
    (subst (λ (b : ℕ). Among (areas_from (suc block) uses) (at_block n b)) even (listed_from uses (suc block) k n u at of))

-- where an area of the list stands
pub record IsAtPlace (uses : List BlockUse) (block : ℕ) (a : AreaRef) : Type 0 where
  pub place : ℕ
  pub block_is : a.block ≡ block + place
  pub used : BlockUse
  pub at : slice_get uses place ≡ Some used
  pub of : serial_of used ≡ Some a.serial

one_at : (block : ℕ) (o : Option ℕ) (a : AreaRef) → Among (option_to_list (option_map (λ serial. record { serial = serial; block = block }) o)) a → (a.block ≡ block) × (o ≡ Some a.serial)
one_at block None a at = absurd (let there = at.1 in cc)
one_at block (Some n) a (zero, here) = let same : at_block n block ≡ a = some_same (at_block n block) a here in (sym (ap (λ (x : AreaRef). x.block) same), ap (λ (x : AreaRef). Some x.serial) same)
one_at block (Some n) a (suc i, there) = absurd (cc)

pub at_place : (uses : List BlockUse) (block : ℕ) (a : AreaRef) → Among (areas_from block uses) a → IsAtPlace uses block a
at_place [] block a at = absurd (let there = at.1 in cc)
at_place (v ∷ uses) block a at =
    elim (among_either (one_area block v) (areas_from (suc block) uses) a at) as (λ _. IsAtPlace (v ∷ uses) block a) [
      | inl here ↦ let one = one_at block (serial_of v) a here in let is = one.0 in record { place = 0; block_is = omega (arith, is); used = v; at = refl; of = one.1 }
      | inr behind ↦ let later = at_place uses (suc block) a behind in let is = later.block_is in record { place = suc later.place; block_is = omega (arith, is); used = later.used; at = later.at; of = later.of }
    ]

-- ---- both pools

module _ (s : Areas) where
  pub stands_at : (a : AreaRef) (used : BlockUse) → use_of s a.block ≡ Some used → serial_of used ≡ Some a.serial → Stands s a
  stands_at a used is of = ap (option_and_then serial_of) is ∙ of

  -- what stands is listed
  pub stands_listed : (a : AreaRef) → Stands s a → Among (areas_in s) a
  stands_listed a stands =
      let found = and_then_some serial_of (use_of s a.block) a.serial stands in
      elim (cases_lt a.block 64) as (λ _. Among (areas_in s) a) [
        | inl low ↦
            elim (cases_lt a.block 9) as (λ _. Among (areas_in s) a) [
              | inl none ↦ absurd (let never = use_none s a.block none in let is = found.1 in no_use found.0 (sym never ∙ is))
              | inr high ↦
                  let even : 9 + (a.block - 9) ≡ a.block = omega (arith, high) in
                  among_left (areas_from 9 s.big) (areas_from 64 s.small) a
                  (subst (λ (b : ℕ). Among (areas_from 9 s.big) (at_block a.serial b)) even (listed_from s.big 9 (a.block - 9) a.serial found.0 (sym (use_big s a.block high low) ∙ found.1) found.2))
            ]
        | inr high ↦
            let even : 64 + (a.block - 64) ≡ a.block = omega (arith, high) in
            among_right (areas_from 9 s.big) (areas_from 64 s.small) a
            (subst (λ (b : ℕ). Among (areas_from 64 s.small) (at_block a.serial b)) even (listed_from s.small 64 (a.block - 64) a.serial found.0 (sym (use_small s a.block high) ∙ found.1) found.2))
      ]
    where
      no_use : (u : BlockUse) → None ≡ Some u → ⊥
      no_use u e = (cc)

  -- and what is listed stands
  pub listed_stands : HasSizes s → (a : AreaRef) → Among (areas_in s) a → Stands s a
  listed_stands sizes a listed =
      elim (among_either (areas_from 9 s.big) (areas_from 64 s.small) a listed) as (λ _. Stands s a) [
        | inl big ↦
            let here = at_place s.big 9 a big in
            let is = here.block_is in
            let within = within_get s.big here.place here.used here.at in
            let long = sizes.big in
            let place : a.block - 9 ≡ here.place = omega (arith, is) in
            stands_at a here.used (use_big s a.block (omega (arith, is)) (omega (arith, is, within, long)) ∙ ap (slice_get s.big) place ∙ here.at) here.of
        | inr small ↦
            let here = at_place s.small 64 a small in
            let is = here.block_is in
            let place : a.block - 64 ≡ here.place = omega (arith, is) in
            stands_at a here.used (use_small s a.block (omega (arith, is)) ∙ ap (slice_get s.small) place ∙ here.at) here.of
      ]

-- ---- their order

-- blocks rise from this one on
abbrev pub AreRising : ℕ → List AreaRef → Type 0
AreRising block [] = Unit {0}
AreRising block (a ∷ areas) = (block ≤ a.block) × AreRising (suc a.block) areas

lower : (areas : List AreaRef) (b c : ℕ) → b ≤ c → AreRising c areas → AreRising b areas
lower [] b c less rising = tt
lower (a ∷ areas) b c less rising = let first = rising.0 in (omega (arith, less, first), rising.1)

one_rising : (block : ℕ) (o : Option ℕ) (areas : List AreaRef) → AreRising (suc block) areas → AreRising block (option_to_list (option_map (λ serial. record { serial = serial; block = block }) o) ++ areas)
one_rising block None areas rising = lower areas block (suc block) (omega (arith)) rising
one_rising block (Some n) areas rising = (omega (arith), rising)

from_rising : (uses : List BlockUse) (block : ℕ) → AreRising block (areas_from block uses)
from_rising [] block = tt
from_rising (u ∷ uses) block = one_rising block (serial_of u) (areas_from (suc block) uses) (from_rising uses (suc block))

joined : (xs ys : List AreaRef) (b c : ℕ) → b ≤ c → ((a : AreaRef) → Among xs a → a.block < c) → AreRising b xs → AreRising c ys → AreRising b (xs ++ ys)
joined [] ys b c less below rising more = lower ys b c less more
joined (a ∷ xs) ys b c less below rising more =
    let here = below a (0, refl) in (rising.0, joined xs ys (suc a.block) c (omega (arith, here)) (λ x at. below x (suc at.0, at.1)) rising.1 more)

pub areas_rise : (s : Areas) → HasSizes s → AreRising 9 (areas_in s)
areas_rise s sizes =
    joined (areas_from 9 s.big) (areas_from 64 s.small) 9 64 (omega (arith))
    (λ a at. let here = at_place s.big 9 a at in let is = here.block_is in let within = within_get s.big here.place here.used here.at in let long = sizes.big in omega (arith, is, within, long))
    (from_rising s.big 9) (from_rising s.small 64)
