-- What holds of each of some elements, or of one of them, and what stands in a list.
use Rattle.std.proofs.Common.{◌≡◌, ℕ, zero, suc, Bool, true, false, ◌||◌, ◌==◌, List, [], ◌∷◌, ◌++◌, length, map, drop, replicate, get_or, slice_get, Some, refl, ap, ◌∙◌, arith}
use Rattle.std.specs.List.{AllByRecursion, list_any}
use Rattle.std.proofs.lemmas.Bool.Decides.{Decides-eqb}

pub each_append : {X : Type 0} (P : X → Type 0) (xs ys : List X) → AllByRecursion P xs → AllByRecursion P ys → AllByRecursion P (xs ++ ys)
each_append P [] ys h k = k
each_append P (x ∷ xs) ys h k = (h.0, each_append P xs ys h.1 k)

-- what holds of each of a list holds of each of its front, and of what is behind
pub all_front : {X : Type 0} (P : X → Type 0) (xs ys : List X) → AllByRecursion P (xs ++ ys) → AllByRecursion P xs
all_front P [] ys h = tt
all_front P (x ∷ xs) ys h = (h.0, all_front P xs ys h.1)

pub all_behind : {X : Type 0} (P : X → Type 0) (xs ys : List X) → AllByRecursion P (xs ++ ys) → AllByRecursion P ys
all_behind P [] ys h = h
all_behind P (x ∷ xs) ys h = all_behind P xs ys h.1

-- a test of a list that was made from another
pub any_map : {X Y : Type 0} (p : Y → Bool) (f : X → Y) (xs : List X) → list_any p (map f xs) ≡ list_any (λ x. p (f x)) xs
any_map p f [] = refl
any_map p f (x ∷ xs) = ap (λ t. p (f x) || t) (any_map p f xs)

-- where each fails, none passes
pub none_passes : {X : Type 0} (f : X → Bool) (xs : List X) → ((k : ℕ) (x : X) → slice_get xs k ≡ Some x → f x ≡ false) → list_any f xs ≡ false
none_passes f [] h = refl
none_passes f (x ∷ xs) h = ap (λ b. b || list_any f xs) (h 0 x refl) ∙ none_passes f xs (λ k y e. h (suc k) y e)

-- a list of zeros has zero everywhere
pub zeros : (n k : ℕ) → ◌≡◌ {A = ℕ} (get_or (replicate n 0) k 0) 0
zeros zero k = refl
zeros (suc n) zero = refl
zeros (suc n) (suc k) = zeros n k

pub none_dropped : {X : Type 0} (n : ℕ) → drop {A = X} n [] ≡ []
none_dropped zero = refl
none_dropped (suc n) = refl

-- a text of no bytes
pub nothing : (text : List ℕ) → (length text == 0) ≡ true → text ≡ []
nothing [] h = refl
nothing (c ∷ rest) h = absurd (omega (arith, (Decides-eqb (length (c ∷ rest)) 0).0 h))
