-- What stands in a list that is made of another one.
use Rattle.std.proofs.Common.{◌≡◌, ℕ, ◌<◌, List, [], ◌∷◌, Contains, Option, Some, None, ◌⊎◌, inl, inr, refl, sym, ap, subst, ◌∙◌, arith, get_or}
use Rattle.std.proofs.lemmas.List.Elements.{Contains-append_right, Contains-append_cases}
use Rattle.std.specs.List.{filter_map, cons_option}

-- in front of the others, or among them
pub contains_first : {X : Type 0} (x : X) (xs : List X) → Contains (x ∷ xs) x
contains_first x xs = (0, omega arith, refl)

pub contains_later : {X : Type 0} (x y : X) (xs : List X) → Contains xs y → Contains (x ∷ xs) y
contains_later x y xs h = Contains-append_right (x ∷ []) xs y h

one_element : {X : Type 0} (x y : X) → Contains (x ∷ []) y → x ≡ y
one_element x y h = by h.0 h.1 h.2
  where
    by : (k : ℕ) → k < 1 → get_or (x ∷ []) k y ≡ y → x ≡ y
    by k low e = let first : k ≡ 0 = omega (arith, low) in subst (λ i. get_or (x ∷ []) i y ≡ y) first e

pub contains_cases : {X : Type 0} (x y : X) (xs : List X) → Contains (x ∷ xs) y → (x ≡ y) ⊎ Contains xs y
contains_cases x y xs h = by (Contains-append_cases (x ∷ []) xs y h)
  where
    by : Contains (x ∷ []) y ⊎ Contains xs y → (x ≡ y) ⊎ Contains xs y
    by (inl e) = inl (one_element x y e)
    by (inr e) = inr e

pub none_contained : {X : Type 0} (y : X) → Contains [] y → ⊥
none_contained y h = absurd (omega (arith, h.1))

-- what a function gives of an element
behind_option : {Y : Type 0} (o : Option Y) (ys : List Y) (y : Y) → Contains ys y → Contains (cons_option o ys) y
behind_option None ys y h = h
behind_option (Some w) ys y h = contains_later w y ys h

pub contains_given : {X Y : Type 0} (f : X → Option Y) (xs : List X) (x : X) (y : Y) → Contains xs x → f x ≡ Some y → Contains (filter_map f xs) y
contains_given f [] x y h e = absurd (none_contained x h)
contains_given f (z ∷ xs) x y h e = by (contains_cases z x xs h) (λ k. behind_option (f z) (filter_map f xs) y (contains_given f xs x y k e))
  where
    by : (z ≡ x) ⊎ Contains xs x → (Contains xs x → Contains (cons_option (f z) (filter_map f xs)) y) → Contains (cons_option (f z) (filter_map f xs)) y
    by (inl same) later = subst (λ o. Contains (cons_option o (filter_map f xs)) y) (sym (ap f same ∙ e)) (contains_first y (filter_map f xs))
    by (inr k) later = later k
