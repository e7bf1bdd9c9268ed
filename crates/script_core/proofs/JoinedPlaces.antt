-- Elements by their places, in a list and in two lists joined.
use Rattle.std.proofs.Common.{◌≡◌, ℕ, zero, suc, ◌+◌, ◌<◌, List, [], ◌∷◌, ◌++◌, length, take, get_or, slice_get, Some, sym, ap, ◌∙◌, arith, add-one}
use Rattle.std.proofs.lemmas.Option.{none-some, same_Some}

-- an element that is read stands at its place
pub got : {X : Type 0} (xs : List X) (i : ℕ) (x : X) → x ≡ get_or xs i x → i < length xs → slice_get xs i ≡ Some x
got [] i x at less = absurd (omega (arith, less))
got (y ∷ xs) zero x at less = ap Some (sym at)
got (y ∷ xs) (suc i) x at less = got xs i x at (omega (arith, less))

-- behind a front
pub get_behind : {X : Type 0} (xs ys : List X) (k : ℕ) → slice_get (xs ++ ys) (length xs + k) ≡ slice_get ys k
get_behind [] ys k = ap (slice_get ys) (omega arith)
get_behind (x ∷ xs) ys k = let e : length (x ∷ xs) + k ≡ suc (length xs + k) = omega arith in ap (slice_get (x ∷ xs ++ ys)) e ∙ get_behind xs ys k

pub get_front : {X : Type 0} (xs ys : List X) (k : ℕ) (x : X) → slice_get xs k ≡ Some x → slice_get (xs ++ ys) k ≡ Some x
get_front [] ys k x h = absurd (none-some x h)
get_front (z ∷ xs) ys zero x h = h
get_front (z ∷ xs) ys (suc k) x h = get_front xs ys k x h

-- a place in two lists joined: in the front, or behind it
pub data JoinedAt {X : Type 0} (xs ys : List X) (k : ℕ) (x : X) : Type 0 where
  in_front : slice_get xs k ≡ Some x → JoinedAt xs ys k x
  behind : (n : ℕ) → k ≡ length xs + n → slice_get ys n ≡ Some x → JoinedAt xs ys k x

one_further : {X : Type 0} (z : X) (xs ys : List X) (k : ℕ) (x : X) → JoinedAt xs ys k x → JoinedAt (z ∷ xs) ys (suc k) x
one_further z xs ys k x (in_front h) = in_front h
one_further z xs ys k x (behind n e h) = behind n (omega (arith, e)) h

pub joined_at : {X : Type 0} (xs ys : List X) (k : ℕ) (x : X) → slice_get (xs ++ ys) k ≡ Some x → JoinedAt xs ys k x
joined_at [] ys k x h = behind k (omega arith) h
joined_at (z ∷ xs) ys zero x h = in_front h
joined_at (z ∷ xs) ys (suc k) x h = one_further z xs ys k x (joined_at xs ys k x h)

-- a front that grows by the element at its end
pub take_next : {X : Type 0} (xs : List X) (i : ℕ) (x : X) → slice_get xs i ≡ Some x → take (i + 1) xs ≡ take i xs ++ x ∷ []
take_next [] i x h = absurd (none-some x h)
take_next (y ∷ xs) zero x h = ap (λ z. z ∷ []) (same_Some y x h)
take_next (y ∷ xs) (suc i) x h = rw add-one (ap (λ t. y ∷ t) (rw add-one at (take_next xs i x h)))
