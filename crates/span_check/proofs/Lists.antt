-- Lists by their places, and what holds of each element.
use Rattle.std.proofs.Common.{◌≡◌, ◌≤◌, ◌<◌, ◌+◌, ◌-◌, ◌∙◌, ℕ, zero, suc, refl, sym, ap, arith, add-one, List, [], ◌∷◌, ◌++◌, length, take, drop, get_or, slice_get, Some, IfSome}
use Rattle.std.proofs.lemmas.List.{take_all}
use Rattle.std.proofs.lemmas.Option.{none-some, same_Some, slice_get_read}
use Rattle.std.specs.List.{AllByRecursion}
use Rattle.term_core.proofs.Lists.{none_dropped}
use Rattle.script_core.proofs.JoinedPlaces.{take_next}
use Rattle.run_log.proofs.ListPlaces.{get_within}

-- what holds of each in two ways holds so together
pub all_both : {X : Type 0} (P Q R : X → Type 0) (xs : List X) → ((x : X) → P x → Q x → R x) → AllByRecursion P xs → AllByRecursion Q xs → AllByRecursion R xs
all_both P Q R [] f h k = tt
all_both P Q R (x ∷ xs) f h k = (f x h.0 k.0, all_both P Q R xs f h.1 k.1)

-- what holds of each holds of the one at a place, if there is one
pub all_if_there : {X : Type 0} (P : X → Type 0) (xs : List X) (k : ℕ) → AllByRecursion P xs → IfSome (slice_get xs k) P
all_if_there P [] k h = tt
all_if_there P (x ∷ xs) zero h = h.0
all_if_there P (x ∷ xs) (suc k) h = all_if_there P xs k h.1

-- the element at a place stands between those before it and those behind
pub split_here : {X : Type 0} (xs : List X) (i : ℕ) (x : X) → slice_get xs i ≡ Some x → xs ≡ take i xs ++ x ∷ drop (i + 1) xs
split_here [] i x h = absurd (none-some x h)
split_here (y ∷ xs) zero x h = ap (λ z. z ∷ xs) (same_Some y x h)
split_here (y ∷ xs) (suc i) x h = rw add-one (ap (λ t. y ∷ t) (rw add-one at (split_here xs i x h)))

-- an element that was read at a place below the length stands there
pub read_at : {X : Type 0} (xs : List X) (i : ℕ) (x : X) → i < length xs → x ≡ get_or xs i x → slice_get xs i ≡ Some x
read_at xs i x within is = slice_get_read xs (length xs) i x refl within is

-- what is left of a list when more of it is dropped
pub drop_more : {X : Type 0} (a b : ℕ) (xs : List X) → drop (a + b) xs ≡ drop b (drop a xs)
drop_more zero b xs = let e : zero + b ≡ b = omega arith in ap (λ n. drop n xs) e
drop_more (suc a) b [] = none_dropped (suc a + b) ∙ sym (none_dropped b)
drop_more (suc a) b (x ∷ xs) = let e : suc a + b ≡ suc (a + b) = omega arith in ap (λ n. drop n (x ∷ xs)) e ∙ drop_more a b xs

-- what holds of each holds of each of a front, and of what is left
pub all_take : {X : Type 0} (P : X → Type 0) (n : ℕ) (xs : List X) → AllByRecursion P xs → AllByRecursion P (take n xs)
all_take P zero xs h = tt
all_take P (suc n) [] h = tt
all_take P (suc n) (x ∷ xs) h = (h.0, all_take P n xs h.1)

-- the last element stands behind the others
pub last_at : {X : Type 0} (xs : List X) (x : X) → 0 < length xs → slice_get xs (length xs - 1) ≡ Some x → xs ≡ take (length xs - 1) xs ++ x ∷ []
last_at xs x some at =
    let n : length xs ≤ length xs - 1 + 1 = omega (arith, some) in
    sym (take_all (length xs - 1 + 1) xs n) ∙ take_next xs (length xs - 1) x at

pub last_split : {X : Type 0} (xs : List X) → 0 < length xs → (x : X) × (xs ≡ take (length xs - 1) xs ++ x ∷ [])
last_split xs some = let at = get_within xs (length xs - 1) (omega (arith, some)) in (at.0, last_at xs at.0 some at.1)
