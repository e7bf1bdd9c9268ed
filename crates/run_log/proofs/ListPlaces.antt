-- Elements of a list by their places, after a write and behind one another; and what holds of each element.
use Rattle.std.proofs.Common.{◌≡◌, ℕ, zero, suc, ◌<◌, List, [], ◌∷◌, ◌++◌, length, slice_get, slice_set, Some, refl, ap, subst, arith}
use Rattle.std.proofs.lemmas.Option.{none-some, same_Some}
use Rattle.std.specs.List.{AllByRecursion}

-- what stands at a place after a write: what was written, or what stood there
pub data SetAt {X : Type 0} (xs : List X) (i : ℕ) (y : X) (k : ℕ) (q : X) : Type 0 where
  here : k ≡ i → y ≡ q → SetAt xs i y k q
  there : (k ≡ i → ⊥) → slice_get xs k ≡ Some q → SetAt xs i y k q

set_behind : {X : Type 0} (x : X) (xs : List X) (i : ℕ) (y : X) (k : ℕ) (q : X) → SetAt xs i y k q → SetAt (x ∷ xs) (suc i) y (suc k) q
set_behind x xs i y k q (here e h) = here (ap suc e) h
set_behind x xs i y k q (there n h) = there (λ e. n (omega (arith, e))) h

pub set_at : {X : Type 0} (xs : List X) (i : ℕ) (y : X) (k : ℕ) (q : X) → slice_get (slice_set xs i y) k ≡ Some q → SetAt xs i y k q
set_at [] i y k q h = absurd (none-some q h)
set_at (x ∷ xs) zero y zero q h = here refl (same_Some y q h)
set_at (x ∷ xs) zero y (suc k) q h = there (λ e. absurd (omega (arith, e))) h
set_at (x ∷ xs) (suc i) y zero q h = there (λ e. absurd (omega (arith, e))) h
set_at (x ∷ xs) (suc i) y (suc k) q h = set_behind x xs i y k q (set_at xs i y k q h)

pub set_here : {X : Type 0} (xs : List X) (i : ℕ) (x y : X) → slice_get xs i ≡ Some x → slice_get (slice_set xs i y) i ≡ Some y
set_here [] i x y h = absurd (none-some x h)
set_here (z ∷ xs) zero x y h = refl
set_here (z ∷ xs) (suc i) x y h = set_here xs i x y h

pub set_there : {X : Type 0} (xs : List X) (i : ℕ) (y : X) (k : ℕ) → (k ≡ i → ⊥) → slice_get (slice_set xs i y) k ≡ slice_get xs k
set_there [] i y k n = refl
set_there (x ∷ xs) zero y zero n = absurd (n refl)
set_there (x ∷ xs) zero y (suc k) n = refl
set_there (x ∷ xs) (suc i) y zero n = refl
set_there (x ∷ xs) (suc i) y (suc k) n = set_there xs i y k (λ e. n (ap suc e))

-- what stands within a list
pub get_within : {X : Type 0} (xs : List X) (i : ℕ) → i < length xs → (x : X) × (slice_get xs i ≡ Some x)
get_within [] i h = absurd (omega (arith, h))
get_within (x ∷ xs) zero h = (x, refl)
get_within (x ∷ xs) (suc i) h = get_within xs i (omega (arith, h))

module _ {X : Type 0} where
  pub all_push : (P : X → Type 0) (xs : List X) (y : X) → AllByRecursion P xs → P y → AllByRecursion P (xs ++ y ∷ [])
  all_push P [] y h p = (p, tt)
  all_push P (x ∷ xs) y h p = (h.0, all_push P xs y h.1 p)

  pub all_join : (P : X → Type 0) (xs ys : List X) → AllByRecursion P xs → AllByRecursion P ys → AllByRecursion P (xs ++ ys)
  all_join P [] ys h k = k
  all_join P (x ∷ xs) ys h k = (h.0, all_join P xs ys h.1 k)

  pub all_front : (P : X → Type 0) (xs : List X) (y : X) → AllByRecursion P (xs ++ y ∷ []) → AllByRecursion P xs
  all_front P [] y h = tt
  all_front P (x ∷ xs) y h = (h.0, all_front P xs y h.1)

  pub all_last : (P : X → Type 0) (xs : List X) (y : X) → AllByRecursion P (xs ++ y ∷ []) → P y
  all_last P [] y h = h.0
  all_last P (x ∷ xs) y h = all_last P xs y h.1

  pub all_weaker : (P Q : X → Type 0) → ((x : X) → P x → Q x) → (xs : List X) → AllByRecursion P xs → AllByRecursion Q xs
  all_weaker P Q f [] h = tt
  all_weaker P Q f (x ∷ xs) h = (f x h.0, all_weaker P Q f xs h.1)

  pub all_at : (P : X → Type 0) (xs : List X) (k : ℕ) (x : X) → AllByRecursion P xs → slice_get xs k ≡ Some x → P x
  all_at P [] k x h e = absurd (none-some x e)
  all_at P (y ∷ xs) zero x h e = subst P (same_Some y x e) h.0
  all_at P (y ∷ xs) (suc k) x h e = all_at P xs k x h.1 e
