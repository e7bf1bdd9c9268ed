-- Sums over the views of all seats.
use Rattle.std.proofs.Common.{◌≡◌, ℕ, zero, suc, ◌+◌, ◌<◌, ◌≤◌, List, [], ◌∷◌, length, set, get_or, sum_by, refl, sym, subst, arith}
use mathlib.Core.Option.{some, some-injective, some-ne-none}
use lib.ListN.{get_elem?}
use Rattle.std.proofs.lemmas.List.Sums.{sum_by-set, sum_by-le-sum_by, get_or-le-sum_by}

module _ {A : Type 0} where
  -- what stands at a place is within
  within : (xs : List A) (i : ℕ) (x : A) → get_elem? xs i ≡ some x → i < length xs
  within [] i x at = absurd (some-ne-none x (sym at))
  within (y ∷ ys) zero x at = omega arith
  within (y ∷ ys) (suc i) x at = let rest = within ys i x at in omega arith

  stands : (xs : List A) (i : ℕ) (x : A) → get_elem? xs i ≡ some x → get_or xs i x ≡ x
  stands [] i x at = refl
  stands (y ∷ ys) zero x at = some-injective y x at
  stands (y ∷ ys) (suc i) x at = stands ys i x at

  -- one view becomes another
  pub sum_set : (f : A → ℕ) (xs : List A) (i : ℕ) (x y : A) → get_elem? xs i ≡ some x → sum_by f (set xs i y) + f x ≡ sum_by f xs + f y
  sum_set f xs i x y at = subst (λ z. sum_by f (set xs i y) + f z ≡ sum_by f xs + f y) (stands xs i x at) (sum_by-set f xs i y x (within xs i x at))

  -- the sum is no less than one of its parts
  pub part_of_sum : (f : A → ℕ) (xs : List A) (i : ℕ) (x : A) → get_elem? xs i ≡ some x → f x ≤ sum_by f xs
  part_of_sum f xs i x at = subst (λ z. f z ≤ sum_by f xs) (stands xs i x at) (get_or-le-sum_by f xs i x (within xs i x at))

  -- where one view has the whole of a larger sum, it has the whole of the smaller one
  pub whole_is_all : (f g : A → ℕ) → ((x : A) → f x ≤ g x) → (xs : List A) (i : ℕ) (x empty : A) → g empty ≡ 0 → get_elem? xs i ≡ some x → sum_by g xs ≡ g x → sum_by f xs ≡ f x
  whole_is_all f g smaller xs i x empty none at whole =
      let larger = sum_set g xs i x empty at in
      let others = sum_by-le-sum_by f g (set xs i empty) smaller in
      let changed = sum_set f xs i x empty at in
      let nothing = smaller empty in
      omega arith
