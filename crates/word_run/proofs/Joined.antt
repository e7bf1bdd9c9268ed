-- Lists that one more element joins at their end, and what is left of a list from whose front elements were taken.
use Rattle.std.proofs.Common.{◌≡◌, ◌⊎◌, inl, inr, ℕ, zero, suc, List, [], ◌∷◌, ◌++◌, length, length-append, drop, Some, slice_get, refl, sym, ap, arith}
use Rattle.std.proofs.lemmas.Option.{none-some, same_Some}

one_further : {X : Type 0} (z : X) (xs : List X) (x y : X) (k : ℕ) → (slice_get xs k ≡ Some y) ⊎ ((k ≡ length xs) × (x ≡ y)) → (slice_get (z ∷ xs) (suc k) ≡ Some y) ⊎ ((suc k ≡ length (z ∷ xs)) × (x ≡ y))
one_further z xs x y k (inl h) = inl h
one_further z xs x y k (inr h) = inr (ap suc h.0, h.1)

-- what stands in such a list stood there before, or it is what joined
pub joined_at : {X : Type 0} (xs : List X) (x y : X) (k : ℕ) → slice_get (xs ++ x ∷ []) k ≡ Some y → (slice_get xs k ≡ Some y) ⊎ ((k ≡ length xs) × (x ≡ y))
joined_at [] x y zero h = inr (refl, same_Some x y h)
joined_at [] x y (suc k) h = absurd (none-some y h)
joined_at (z ∷ xs) x y zero h = inl h
joined_at (z ∷ xs) x y (suc k) h = one_further z xs x y k (joined_at xs x y k h)

module _ {X : Type 0} where
  -- the next of what is left
  pub dropped_next : (xs rest : List X) (x : X) (k : ℕ) → drop k xs ≡ x ∷ rest → (slice_get xs k ≡ Some x) × (rest ≡ drop (suc k) xs)
  dropped_next [] rest x zero h = absurd (cc)
  dropped_next [] rest x (suc k) h = absurd (cc)
  dropped_next (y ∷ xs) rest x zero h = (ap (λ (l : List X). slice_get l 0) h, sym (ap (λ (l : List X). drop 1 l) h))
  dropped_next (y ∷ xs) rest x (suc k) h = dropped_next xs rest x k h

pub length_joined : {X : Type 0} (xs : List X) (x : X) → suc (length xs) ≡ length (xs ++ x ∷ [])
length_joined xs x = omega (arith, length-append xs (x ∷ []))
