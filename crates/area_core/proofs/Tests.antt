-- What tests of lists say of their elements, and what elements say of the tests.
use Rattle.std.proofs.Common.{◌≡◌, ◌≢◌, ℕ, zero, suc, Bool, true, false, cond, not, ◌&&◌, ◌||◌, List, [], ◌∷◌, Some, ◌⊎◌, inl, inr, refl, sym, ap, ◌∙◌, arith}
use Rattle.std.specs.Prelude.{◌==◌, slice_get}
use Rattle.std.specs.List.{list_any, list_all, filter}
use Rattle.std.proofs.lemmas.Bool.{and_parts, and_from, or_cases, or_left, or_right, eqb-true, cases_Bool, not-true}
use Rattle.area_core.specs.declared.table.Published.{Published}
use Rattle.area_core.specs.Generations.{are_alike}
use Rattle.area_core.specs.Blocks.{Among}
use Rattle.area_core.specs.Readers.{holds_of, holds_at, holds_of_each}

-- one that passes a test makes it true of some
pub some_passes : {X : Type 0} (test : X → Bool) (xs : List X) (i : ℕ) (x : X) → slice_get xs i ≡ Some x → test x ≡ true → list_any test xs ≡ true
some_passes test [] i x at passes = absurd (cc)
some_passes test (z ∷ zs) zero x at passes = let same : z ≡ x = cc in or_left (test z) (list_any test zs) (ap test same ∙ passes)
some_passes test (z ∷ zs) (suc i) x at passes = or_right (test z) (list_any test zs) (some_passes test zs i x at passes)

-- a test that is true of some is passed by one
pub passed_by : {X : Type 0} (test : X → Bool) (xs : List X) → list_any test xs ≡ true → (x : X) × (i : ℕ) × (slice_get xs i ≡ Some x) × (test x ≡ true)
passed_by test [] e = absurd (cc)
passed_by {X = X} test (z ∷ zs) e =
    elim (or_cases (test z) (list_any test zs) e) as (λ _. (x : X) × (i : ℕ) × (slice_get (z ∷ zs) i ≡ Some x) × (test x ≡ true)) [
      | inl here ↦ (z, 0, refl, here)
      | inr behind ↦ let found = passed_by test zs behind in (found.0, suc found.1, found.2, found.3)
    ]

-- what all pass, each passes
pub each_passes : {X : Type 0} (test : X → Bool) (xs : List X) (i : ℕ) (x : X) → list_all test xs ≡ true → slice_get xs i ≡ Some x → test x ≡ true
each_passes test [] i x all at = absurd (cc)
each_passes test (z ∷ zs) zero x all at = let same : x ≡ z = cc in ap test same ∙ (and_parts (test z) (list_all test zs) all).0
each_passes test (z ∷ zs) (suc i) x all at = each_passes test zs i x (and_parts (test z) (list_all test zs) all).1 at

-- what each passes, all pass
pub all_pass : {X : Type 0} (test : X → Bool) (xs : List X) → ((i : ℕ) (x : X) → slice_get xs i ≡ Some x → test x ≡ true) → list_all test xs ≡ true
all_pass test [] each = refl
all_pass test (z ∷ zs) each = and_from (test z) (list_all test zs) (each 0 z refl) (all_pass test zs (λ i x at. each (suc i) x at))

-- ---- numbers

-- a test of all these numbers holds of one of them
pub number_passes : (test : ℕ → Bool) (xs : List ℕ) (g : ℕ) → list_all test xs ≡ true → list_any (λ x. x == g) xs ≡ true → test g ≡ true
number_passes test xs g all among =
    let found = passed_by (λ x. x == g) xs among in
    ap test (sym (eqb-true found.0 g found.3)) ∙ each_passes test xs found.1 found.0 all found.2

-- a test of one of these numbers holds of some
pub number_found : (test : ℕ → Bool) (xs : List ℕ) (g : ℕ) → list_any (λ x. x == g) xs ≡ true → test g ≡ true → list_any test xs ≡ true
number_found test xs g among passes =
    let found = passed_by (λ x. x == g) xs among in
    some_passes test xs found.1 found.0 found.2 (ap test (eqb-true found.0 g found.3) ∙ passes)

-- a test of each of these generations holds of one of them
pub generation_passes : (published : List Published) (generations : List ℕ) (test : ℕ → Published → Bool) (g : ℕ) (p : Published) → holds_of_each published generations test ≡ true → list_any (λ x. x == g) generations ≡ true → slice_get published g ≡ Some p → test g p ≡ true
generation_passes published generations test g p all among at =
    ap (holds_of test g) (sym at) ∙ number_passes (holds_at published test) generations g all among

-- ---- filters

-- what passes a filter stands in the list, and passes
pub filter_gives : {X : Type 0} (test : X → Bool) (xs : List X) (i : ℕ) (x : X) → slice_get (filter test xs) i ≡ Some x → Among xs x × (test x ≡ true)
filter_gives test [] i x at = absurd (cc)
filter_gives {X = X} test (z ∷ zs) i x at =
    elim (cases_Bool (test z)) as (λ _. Among (z ∷ zs) x × (test x ≡ true)) [
      | inl passes ↦ first z zs i x passes (filter_gives test zs) (ap (λ c. slice_get (cond c (z ∷ filter test zs) (filter test zs)) i) (sym passes) ∙ at)
      | inr fails ↦
          let found = filter_gives test zs i x (ap (λ c. slice_get (cond c (z ∷ filter test zs) (filter test zs)) i) (sym fails) ∙ at) in
          ((suc found.0.0, found.0.1), found.1)
    ]
  where
    first : (z : X) (zs : List X) (i : ℕ) (x : X) → test z ≡ true → ((j : ℕ) (y : X) → slice_get (filter test zs) j ≡ Some y → Among zs y × (test y ≡ true)) → slice_get (z ∷ filter test zs) i ≡ Some x → Among (z ∷ zs) x × (test x ≡ true)
    first z zs zero x passes behind at = let same : x ≡ z = cc in ((0, ap Some (sym same)), ap test same ∙ passes)
    first z zs (suc i) x passes behind at = let found = behind i x at in ((suc found.0.0, found.0.1), found.1)

-- a test that one of the list passes together with the filter is passed by one that is left
pub filter_keeps : {X : Type 0} (test also : X → Bool) (xs : List X) (i : ℕ) (x : X) → slice_get xs i ≡ Some x → test x ≡ true → also x ≡ true → list_any also (filter test xs) ≡ true
filter_keeps test also [] i x at passes too = absurd (cc)
filter_keeps test also (z ∷ zs) zero x at passes too =
    let same : z ≡ x = cc in
    ap (λ c. list_any also (cond c (z ∷ filter test zs) (filter test zs))) (ap test same ∙ passes) ∙ or_left (also z) (list_any also (filter test zs)) (ap also same ∙ too)
filter_keeps test also (z ∷ zs) (suc i) x at passes too =
    elim (cases_Bool (test z)) as (λ _. list_any also (filter test (z ∷ zs)) ≡ true) [
      | inl first ↦ ap (λ c. list_any also (cond c (z ∷ filter test zs) (filter test zs))) first ∙ or_right (also z) (list_any also (filter test zs)) (filter_keeps test also zs i x at passes too)
      | inr other ↦ ap (λ c. list_any also (cond c (z ∷ filter test zs) (filter test zs))) other ∙ filter_keeps test also zs i x at passes too
    ]

-- ---- chains of tests

-- all of three
pub three_hold : (a b c : Bool) → (a && b && c) ≡ true → (a ≡ true) × (b ≡ true) × (c ≡ true)
three_hold true true true e = (refl, refl, refl)
three_hold a b c e = absurd (cc)

-- all of four
pub four_hold : (a b c d : Bool) → (a && b && c && d) ≡ true → (a ≡ true) × (b ≡ true) × (c ≡ true) × (d ≡ true)
four_hold true true true true e = (refl, refl, refl, refl)
four_hold a b c d e = absurd (cc)

-- where the first holds, one of two others
pub one_of_two : (a b c : Bool) → (not a || b || c) ≡ true → a ≡ true → (b ≡ true) ⊎ (c ≡ true)
one_of_two true true c e is = inl refl
one_of_two true false true e is = inr refl
one_of_two a b c e is = absurd (cc)

-- where the first holds, one of three others
pub one_of_three : (a b c d : Bool) → (not a || b || c || d) ≡ true → a ≡ true → (b ≡ true) ⊎ ((c ≡ true) ⊎ (d ≡ true))
one_of_three true true c d e is = inl refl
one_of_three true false true d e is = inr (inl refl)
one_of_three true false false true e is = inr (inr refl)
one_of_three a b c d e is = absurd (cc)

-- two tests that agree
pub agrees_same : (a b : Bool) → are_alike a b ≡ true → a ≡ b
agrees_same true b e = sym e
agrees_same false b e = sym (not-true b e)

-- two of a filtered list stand apart in the list
pub filter_apart : {X : Type 0} (test : X → Bool) (xs : List X) (i j : ℕ) (a b : X) → i ≢ j → slice_get (filter test xs) i ≡ Some a → slice_get (filter test xs) j ≡ Some b → (k : ℕ) × (l : ℕ) × (k ≢ l) × (slice_get xs k ≡ Some a) × (slice_get xs l ≡ Some b)
filter_apart test [] i j a b differ is_a is_b = absurd (cc)
filter_apart {X = X} test (z ∷ zs) i j a b differ is_a is_b =
    elim (cases_Bool (test z)) as (λ _. (k : ℕ) × (l : ℕ) × (k ≢ l) × (slice_get (z ∷ zs) k ≡ Some a) × (slice_get (z ∷ zs) l ≡ Some b)) [
      | inl passes ↦ first i j differ (kept i a passes is_a) (kept j b passes is_b) (λ m n. filter_apart test zs m n a b)
      | inr fails ↦ let found = filter_apart test zs i j a b differ (left i a fails is_a) (left j b fails is_b) in (suc found.0, suc found.1, (λ same. found.2 (suc_same found.0 found.1 same)), found.3, found.4)
    ]
  where
    suc_same : (m n : ℕ) → suc m ≡ suc n → m ≡ n
    suc_same m n e = omega (arith)

    kept : (n : ℕ) (x : X) → test z ≡ true → slice_get (filter test (z ∷ zs)) n ≡ Some x → slice_get (z ∷ filter test zs) n ≡ Some x
    kept n x passes at = ap (λ c. slice_get (cond c (z ∷ filter test zs) (filter test zs)) n) (sym passes) ∙ at

    left : (n : ℕ) (x : X) → test z ≡ false → slice_get (filter test (z ∷ zs)) n ≡ Some x → slice_get (filter test zs) n ≡ Some x
    left n x fails at = ap (λ c. slice_get (cond c (z ∷ filter test zs) (filter test zs)) n) (sym fails) ∙ at

    first : (i j : ℕ) → i ≢ j → slice_get (z ∷ filter test zs) i ≡ Some a → slice_get (z ∷ filter test zs) j ≡ Some b → ((m n : ℕ) → m ≢ n → slice_get (filter test zs) m ≡ Some a → slice_get (filter test zs) n ≡ Some b → (k : ℕ) × (l : ℕ) × (k ≢ l) × (slice_get zs k ≡ Some a) × (slice_get zs l ≡ Some b)) → (k : ℕ) × (l : ℕ) × (k ≢ l) × (slice_get (z ∷ zs) k ≡ Some a) × (slice_get (z ∷ zs) l ≡ Some b)
    first zero zero differ is_a is_b behind = absurd (differ refl)
    first zero (suc j) differ is_a is_b behind = let found = filter_gives test zs j b is_b in (0, suc found.0.0, (λ same. absurd (cc)), is_a, found.0.1)
    first (suc i) zero differ is_a is_b behind = let found = filter_gives test zs i a is_a in (suc found.0.0, 0, (λ same. absurd (cc)), found.0.1, is_b)
    first (suc i) (suc j) differ is_a is_b behind = let found = behind i j (λ same. differ (ap suc same)) is_a is_b in (suc found.0, suc found.1, (λ same. found.2 (suc_same found.0 found.1 same)), found.3, found.4)
