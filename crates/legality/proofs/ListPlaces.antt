-- Elements by their places, and what is left of a list from a place on.
use Rattle.std.proofs.Common.{◌≡◌, ℕ, zero, suc, ◌+◌, ◌<◌, List, [], ◌∷◌, length, drop, slice_get, Some, sym, ap, arith, add-one}
use Rattle.std.proofs.lemmas.Option.{none-some, same_Some}

-- what stands at a place is within the list
pub within : {X : Type 0} (xs : List X) (i : ℕ) (x : X) → slice_get xs i ≡ Some x → i < length xs
within [] i x h = absurd (none-some x h)
within (y ∷ xs) zero x h = omega arith
within (y ∷ xs) (suc i) x h = let l = within xs i x h in omega (arith, l)

-- what is left begins with what stands at its place
pub drop_next : {X : Type 0} (xs : List X) (i : ℕ) (x : X) → slice_get xs i ≡ Some x → drop i xs ≡ x ∷ drop (i + 1) xs
drop_next [] i x h = absurd (none-some x h)
drop_next (y ∷ xs) zero x h = ap (λ z. z ∷ xs) (same_Some y x h)
drop_next (y ∷ xs) (suc i) x h = rw add-one (rw add-one at (drop_next xs i x h))

-- and what it begins with stands there
pub drop_begins : {X : Type 0} (xs : List X) (i : ℕ) (x : X) (rest : List X) → x ∷ rest ≡ drop i xs → slice_get xs i ≡ Some x
drop_begins [] zero x rest h = cc
drop_begins [] (suc i) x rest h = cc
drop_begins (y ∷ xs) zero x rest h = let e : x ≡ y = cc in ap Some (sym e)
drop_begins (y ∷ xs) (suc i) x rest h = drop_begins xs i x rest h
