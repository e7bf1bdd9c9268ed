-- Tests that hold because of what is known: the other way round than Tests and Counted.
use Rattle.std.proofs.Common.{◌≡◌, ℕ, zero, suc, ◌/◌, ◌<◌, Bool, true, false, cond, not, ◌&&◌, ◌||◌, List, [], ◌∷◌, Option, Some, None, inl, inr, refl, sym, ap, ◌∙◌, arith}
use Rattle.std.specs.Prelude.{◌==◌, slice_get}
use Rattle.std.specs.List.{list_any, filter}
use Rattle.std.proofs.lemmas.Bool.{and_parts, and_from, or_cases, or_left, or_right, eq-eqb, eqb-true, not_from_false, cases_Bool, true≢false}
use Rattle.area_core.specs.declared.map.TheConstants.{ANCHORS}
use Rattle.area_core.specs.declared.readers.Slots.{Slots}
use Rattle.area_core.specs.declared.table.Published.{Published}
use Rattle.area_core.specs.declared.table.KeptArea.{KeptArea}
use Rattle.area_core.specs.declared.table.Table.{Table}
use Rattle.area_core.specs.Map.{word_at, anchor_place}
use Rattle.area_core.specs.Generations.{are_alike, anchor_names_area}
use Rattle.area_core.specs.Blocks.{Among}
use Rattle.area_core.specs.Readers.{holds_of, holds_at, holds_of_each, is_slot_of, is_named_before}
use Rattle.area_core.specs.Stores.{holds_in_block}
use Rattle.area_core.specs.Step.{if_enabled}
use Rattle.area_core.proofs.Counted.{named_none, named_suc}
use Rattle.area_core.proofs.Tests.{some_passes, all_pass}

-- a test that cannot hold fails
pub never : (b : Bool) → (b ≡ true → ⊥) → b ≡ false
never true refuted = absurd (refuted refl)
never false refuted = refl

-- three tests that hold
pub three_from : (a b c : Bool) → a ≡ true → b ≡ true → c ≡ true → (a && b && c) ≡ true
three_from true true true e f g = refl
three_from a b c e f g = absurd (cc)

-- four tests that hold
pub four_from : (a b c d : Bool) → a ≡ true → b ≡ true → c ≡ true → d ≡ true → (a && b && c && d) ≡ true
four_from true true true true e f g h = refl
four_from a b c d e f g h = absurd (cc)

-- what is enabled is left
pub is_enabled : (b : Bool) (t : Table) → b ≡ true → if_enabled b t ≡ Some t
is_enabled b t e = ap (λ (x : Bool). if_enabled x t) e

-- where one is the other, both tests agree
pub agrees_from : (a b : Bool) → a ≡ b → are_alike a b ≡ true
agrees_from true true e = refl
agrees_from false false e = refl
agrees_from a b e = absurd (cc)

-- what holds of the first so many makes a test true that goes through them
pub count_from : (test each : ℕ → Bool) → test 0 ≡ true → ((n : ℕ) → test (suc n) ≡ (test n && each n)) → (n : ℕ) → ((i : ℕ) → i < n → each i ≡ true) → test n ≡ true
count_from test each none next zero all = none
count_from test each none next (suc n) all = next n ∙ and_from (test n) (each n) (count_from test each none next n (λ i below. all i (omega (arith, below)))) (all n (omega (arith)))

-- what holds of the kept areas in a block makes their test true
pub each_in_block : (kept : List KeptArea) (block : ℕ) (test : KeptArea → Bool) → ((k : KeptArea) → Among kept k → k.area.block ≡ block → test k ≡ true) → holds_in_block kept block test ≡ true
each_in_block kept block test each = all_pass (λ (k : KeptArea). not (k.area.block == block) || test k) kept (λ i k at.
    elim (cases_Bool (k.area.block == block)) as (λ _. (not (k.area.block == block) || test k) ≡ true) [
      | inl same ↦ or_right (not (k.area.block == block)) (test k) (each k (i, at) (eqb-true k.area.block block same))
      | inr other ↦ or_left (not (k.area.block == block)) (test k) (not_from_false (k.area.block == block) other)
    ])

-- what holds of what was published under these numbers makes their test true
pub each_generation : (published : List Published) (generations : List ℕ) (test : ℕ → Published → Bool) → ((g : ℕ) (p : Published) → list_any (λ x. x == g) generations ≡ true → slice_get published g ≡ Some p → test g p ≡ true) → holds_of_each published generations test ≡ true
each_generation published generations test each =
    all_pass (holds_at published test) generations (λ i g at. there g (some_passes (λ x. x == g) generations i g at (eq-eqb g g refl)) (slice_get published g) refl)
  where
    there : (g : ℕ) → list_any (λ x. x == g) generations ≡ true → (o : Option Published) → slice_get published g ≡ o → holds_of test g (slice_get published g) ≡ true
    there g among None is = ap (holds_of test g) is
    there g among (Some p) is = ap (holds_of test g) is ∙ each g p among is

-- an area that these slots name stands in one of their anchors
pub named_by : (slots : Slots) (words : List ℕ) (serial n : ℕ) → is_named_before slots words serial n ≡ true → (i : ℕ) × (i < n) × (anchor_names_area (word_at words (anchor_place i)) serial ≡ true)
named_by slots words serial zero e = absurd (true≢false (sym e ∙ named_none slots words serial))
named_by slots words serial (suc n) e =
    elim (or_cases (is_named_before slots words serial n) (is_slot_of slots (n / ANCHORS) && anchor_names_area (word_at words (anchor_place n)) serial) (sym (named_suc slots words serial n) ∙ e)) as (λ _. (i : ℕ) × (i < suc n) × (anchor_names_area (word_at words (anchor_place i)) serial ≡ true)) [
      | inl before ↦ let found = named_by slots words serial n before in (found.0, more found.0 n found.1, found.2)
      | inr here ↦ (n, omega (arith), (and_parts (is_slot_of slots (n / ANCHORS)) (anchor_names_area (word_at words (anchor_place n)) serial) here).1)
    ]
  where
    more : (m n : ℕ) → m < n → m < suc n
    more m n below = omega (arith)

-- what stands in a list and passes is among those that pass
pub filter_has : {X : Type 0} (test : X → Bool) (xs : List X) (i : ℕ) (x : X) → slice_get xs i ≡ Some x → test x ≡ true → Among (filter test xs) x
filter_has test [] i x at passes = absurd (cc)
filter_has test (z ∷ zs) zero x at passes =
    let same : z ≡ x = cc in
    (0, ap (λ c. slice_get (cond c (z ∷ filter test zs) (filter test zs)) 0) (ap test same ∙ passes) ∙ at)
filter_has test (z ∷ zs) (suc i) x at passes =
    let found = filter_has test zs i x at passes in
    elim (cases_Bool (test z)) as (λ _. Among (filter test (z ∷ zs)) x) [
      | inl first ↦ (suc found.0, ap (λ c. slice_get (cond c (z ∷ filter test zs) (filter test zs)) (suc found.0)) first ∙ found.1)
      | inr other ↦ (found.0, ap (λ c. slice_get (cond c (z ∷ filter test zs) (filter test zs)) found.0) other ∙ found.1)
    ]
