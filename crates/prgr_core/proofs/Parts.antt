-- What the parts of a step tell: choices, lists after a write or a push, and tests.
use Rattle.std.proofs.Common.{◌≡◌, ℕ, zero, suc, Bool, true, false, List, [], ◌∷◌, ◌++◌, Option, Some, None, refl, sym, ◌∙◌, ap, ◌⊎◌, inl, inr, length}
use Rattle.std.specs.Prelude.{slice_get, slice_set, unwrap_or, if◌then◌else◌}
use Rattle.std.specs.Option.{option_and_then}
use Rattle.std.specs.List.{list_all}
use Rattle.std.proofs.lemmas.Bool.{and_parts}

-- a chain that gives something was given something
pub and_then_some : {T U : Type 0} (f : T → Option U) (o : Option T) (u : U) → option_and_then f o ≡ Some u → (x : T) × (o ≡ Some x) × (f x ≡ Some u)
and_then_some f None u e = absurd (cc)
and_then_some f (Some x) u e = (x, refl, e)

-- what holds of both holds of the one that is chosen
pub if_each : {T : Type 0} (P : T → Type 0) (b : Bool) (x y : T) → (b ≡ true → P x) → (b ≡ false → P y) → P (if b then x else y)
if_each P true x y when unless = when refl
if_each P false x y when unless = unless refl

pub unless_some : {T : Type 0} (b : Bool) (o : Option T) (t : T) → (if b then None else o) ≡ Some t → (b ≡ false) × (o ≡ Some t)
unless_some true x t e = absurd (cc)
unless_some false x t e = (refl, e)

pub unless_made : {T : Type 0} (b : Bool) (x t : T) → (if b then None else Some x) ≡ Some t → (b ≡ false) × (x ≡ t)
unless_made true x t e = absurd (cc)
unless_made false x t e = (refl, cc)

pub some_same : {T : Type 0} (x t : T) → Some x ≡ Some t → x ≡ t
some_same x t e = (cc)

-- after a write at k, place k has what was written, and each other place what it had
pub slice_get-slice_set : {X : Type 0} (xs : List X) (k : ℕ) (y : X) (j : ℕ) (x : X) → slice_get (slice_set xs k y) j ≡ Some x → ((j ≡ k) × (x ≡ y)) ⊎ ((j ≡ k → ⊥) × (slice_get xs j ≡ Some x))
slice_get-slice_set [] k y j x e = absurd (cc)
slice_get-slice_set (z ∷ zs) zero y zero x e = inl (refl, cc)
slice_get-slice_set (z ∷ zs) (suc k) y (suc j) x e =
    elim (slice_get-slice_set zs k y j x e) as (λ _. ((suc j ≡ suc k) × (x ≡ y)) ⊎ ((suc j ≡ suc k → ⊥) × (slice_get (z ∷ zs) (suc j) ≡ Some x))) [
      | inl here ↦ inl (ap suc here.0, here.1)
      | inr other ↦ inr (λ i. other.0 (cc), other.1)
    ]
slice_get-slice_set (z ∷ zs) k y j x e = inr (λ i. absurd (cc), e)

-- after a push, a place has what it had, or the new last
pub slice_get-push : {X : Type 0} (xs : List X) (y : X) (j : ℕ) (x : X) → slice_get (xs ++ y ∷ []) j ≡ Some x → (slice_get xs j ≡ Some x) ⊎ (x ≡ y)
slice_get-push [] y zero x e = inr (cc)
slice_get-push [] y (suc j) x e = absurd (cc)
slice_get-push (z ∷ zs) y zero x e = inl e
slice_get-push (z ∷ zs) y (suc j) x e = slice_get-push zs y j x e

-- likewise, with the place of the last
pub slice_get-push_at : {X : Type 0} (xs : List X) (y : X) (j : ℕ) (x : X) → slice_get (xs ++ y ∷ []) j ≡ Some x → (slice_get xs j ≡ Some x) ⊎ ((j ≡ length xs) × (x ≡ y))
slice_get-push_at [] y zero x e = inr (refl, cc)
slice_get-push_at [] y (suc j) x e = absurd (cc)
slice_get-push_at (z ∷ zs) y zero x e = inl e
slice_get-push_at (z ∷ zs) y (suc j) x e =
    elim (slice_get-push_at zs y j x e) as (λ _. (slice_get zs j ≡ Some x) ⊎ ((suc j ≡ suc (length zs)) × (x ≡ y))) [
      | inl before ↦ inl before
      | inr last ↦ inr (ap suc last.0, last.1)
    ]

-- what all pass, one of them passes
pub list_all-at : {X : Type 0} (test : X → Bool) (xs : List X) (k : ℕ) (x : X) → list_all test xs ≡ true → slice_get xs k ≡ Some x → test x ≡ true
list_all-at test [] k x all e = absurd (cc)
list_all-at test (z ∷ zs) zero x all e = let first = (and_parts (test z) (list_all test zs) all).0 in let same : z ≡ x = cc in ap test (sym same) ∙ first
list_all-at test (z ∷ zs) (suc k) x all e = list_all-at test zs k x (and_parts (test z) (list_all test zs) all).1 e

pub some_true : (o : Option Bool) → unwrap_or o false ≡ true → o ≡ Some true
some_true None e = absurd (cc)
some_true (Some b) e = ap (λ x. Some x) e
