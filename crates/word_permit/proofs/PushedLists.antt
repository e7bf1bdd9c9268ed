-- What stands in a list that grew by one.
use Rattle.std.proofs.Common.{◌≡◌, ℕ, zero, suc, ◌<◌, List, [], ◌∷◌, ◌++◌, length, slice_get, Some, refl, ap, arith}
use Rattle.std.proofs.lemmas.Option.{none-some, same_Some}

-- what stands in a list with one element more: an element before it, or it
pub data PushedAt {X : Type 0} (xs : List X) (y : X) (k : ℕ) (x : X) : Type 0 where
  before : k < length xs → slice_get xs k ≡ Some x → PushedAt xs y k x
  at_end : k ≡ length xs → y ≡ x → PushedAt xs y k x

-- the same in a list with one element more in front
pushed_behind : {X : Type 0} (z : X) (xs : List X) (y : X) (k : ℕ) (x : X) → PushedAt xs y k x → PushedAt (z ∷ xs) y (suc k) x
pushed_behind z xs y k x (before n h) = before (omega (arith, n)) h
pushed_behind z xs y k x (at_end e h) = at_end (ap suc e) h

-- each element of the longer list is one of these
pub pushed_at : {X : Type 0} (xs : List X) (y : X) (k : ℕ) (x : X) → slice_get (xs ++ y ∷ []) k ≡ Some x → PushedAt xs y k x
pushed_at [] y zero x h = at_end refl (same_Some y x h)
pushed_at [] y (suc k) x h = absurd (none-some x h)
pushed_at (z ∷ xs) y zero x h = before (omega arith) h
pushed_at (z ∷ xs) y (suc k) x h = pushed_behind z xs y k x (pushed_at xs y k x h)
