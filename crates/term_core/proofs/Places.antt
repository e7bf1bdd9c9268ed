-- Lemmas on `position`, `slice_get` and `list_any`, of any lists.
use Rattle.std.proofs.Common.{◌≡◌, ℕ, zero, suc, ◌+◌, ◌<◌, Bool, true, false, cond, not, List, [], ◌∷◌, ◌++◌, map, length, Option, Some, None, option_map, is_some, position, slice_get, nat_lt, refl, sym, ap, ◌∙◌, arith, add-one, ◌||◌, All, subst}
use Rattle.std.specs.List.{position_or_len, list_any}
use Rattle.std.proofs.lemmas.Bool.Decides.{nat_tests}
use Rattle.std.proofs.lemmas.Option.{get_or_from_slice_get, slice_get_within}

-- the place of one that follows
place_after : (r n : ℕ) → cond {A = Option ℕ} (nat_lt (1 + r) (suc n)) (Some (1 + r)) None ≡ option_map (λ i. i + 1) (cond {A = Option ℕ} (nat_lt r n) (Some r) None)
place_after r n = grind (arith, nat_tests)

-- the place of the first
place_first : (n : ℕ) → cond {A = Option ℕ} (nat_lt 0 (suc n)) (Some 0) None ≡ Some 0
place_first n = grind (arith, nat_tests)

-- where the first element passes, it is found; else the rest is asked
pub position-cons : {X : Type 0} (p : X → Bool) (x : X) (xs : List X) → position p (x ∷ xs) ≡ cond (p x) (Some 0) (option_map (λ i. i + 1) (position p xs))
position-cons p x xs =
    let r = position_or_len p xs in
    elim (p x) as (λ b. cond {A = Option ℕ} (nat_lt (cond (not b) (1 + r) 0) (suc (length xs))) (Some (cond (not b) (1 + r) 0)) None ≡ cond b (Some 0) (option_map (λ i. i + 1) (cond {A = Option ℕ} (nat_lt r (length xs)) (Some r) None))) [
      | true ↦ place_first (length xs)
      | false ↦ place_after r (length xs)
    ]

-- a place in the mapped list is a place in the list
pub position-map : {X Y : Type 0} (p : Y → Bool) (f : X → Y) (xs : List X) → position p (map f xs) ≡ position (λ x. p (f x)) xs
position-map p f [] = refl
position-map p f (x ∷ xs) =
    position-cons p (f x) (map f xs) ∙ ap (λ o. cond (p (f x)) (Some 0) (option_map (λ i. i + 1) o)) (position-map p f xs) ∙ sym (position-cons (λ x. p (f x)) x xs)

-- a place that is raised is there as before
is_some_next : (o : Option ℕ) → is_some (option_map (λ i. i + 1) o) ≡ is_some o
is_some_next None = refl
is_some_next (Some i) = refl

-- a place is found in front or behind
any_step : (b : Bool) (o : Option ℕ) (a : Bool) → is_some o ≡ a → is_some (cond b (Some 0) (option_map (λ i. i + 1) o)) ≡ cond b true a
any_step true o a e = refl
any_step false o a e = is_some_next o ∙ e

-- a choice of true is an `or`
or_is_cond : (b a : Bool) → cond b true a ≡ (b || a)
or_is_cond true a = refl
or_is_cond false a = refl

-- a place is found exactly where some element passes
pub is_some-position : {X : Type 0} (p : X → Bool) (xs : List X) → is_some (position p xs) ≡ list_any p xs
is_some-position p [] = refl
is_some-position p (x ∷ xs) =
    ap is_some (position-cons p x xs) ∙ any_step (p x) (position p xs) (list_any p xs) (is_some-position p xs) ∙ or_is_cond (p x) (list_any p xs)

-- where none passes, the first does not, nor any behind
none_parts : (b : Bool) (o : Option ℕ) → cond {A = Option ℕ} b (Some 0) (option_map (λ i. i + 1) o) ≡ None → (b ≡ false) × (o ≡ None)
none_parts false None h = (refl, refl)
none_parts b o h = cc

-- behind a list where none passes, the first of what follows is found where it passes
pub position-append_one : {X : Type 0} (p : X → Bool) (xs : List X) (y : X) → position p xs ≡ None → p y ≡ true → position p (xs ++ y ∷ []) ≡ Some (length xs)
position-append_one p [] y none passes = position-cons p y [] ∙ ap (λ b. cond {A = Option ℕ} b (Some 0) None) passes
position-append_one p (x ∷ xs) y none passes =
    let parts = none_parts (p x) (position p xs) (sym (position-cons p x xs) ∙ none) in
    let later : position p (xs ++ y ∷ []) ≡ Some (length xs) = position-append_one p xs y parts.1 passes in
    position-cons p x (xs ++ y ∷ []) ∙ ap (λ b. cond {A = Option ℕ} b (Some 0) (option_map (λ i. i + 1) (position p (xs ++ y ∷ [])))) parts.0 ∙ ap (option_map (λ i. i + 1)) later ∙ ap Some (add-one (length xs))

-- the elements of the front keep their places
pub slice_get-append : {X : Type 0} (xs ys : List X) (i : ℕ) → i < length xs → slice_get (xs ++ ys) i ≡ slice_get xs i
slice_get-append [] ys i less = absurd (omega arith)
slice_get-append (x ∷ xs) ys zero less = refl
slice_get-append (x ∷ xs) ys (suc i) less = slice_get-append xs ys i (omega arith)

-- the first of what follows stands behind the front
pub slice_get-append_one : {X : Type 0} (xs : List X) (y : X) → slice_get (xs ++ y ∷ []) (length xs) ≡ Some y
slice_get-append_one [] y = refl
slice_get-append_one (x ∷ xs) y = slice_get-append_one xs y

-- what is found in front stays there
found_first : {X : Type 0} (p : X → Bool) (x : X) (xs ys : List X) (n : ℕ) (b : Bool) → p x ≡ b → ((m : ℕ) → position p xs ≡ Some m → position p (xs ++ ys) ≡ Some m) → (o : Option ℕ) → position p xs ≡ o → cond b (Some 0) (option_map (λ i. i + 1) o) ≡ Some n → cond b (Some 0) (option_map (λ i. i + 1) (position p (xs ++ ys))) ≡ Some n
found_first p x xs ys n true e later o at h = h
found_first p x xs ys n false e later None at h = cc
found_first p x xs ys n false e later (Some m) at h = ap (option_map (λ i. i + 1)) (later m at) ∙ h

-- so a list behind changes no place that is found
pub position-append_found : {X : Type 0} (p : X → Bool) (xs ys : List X) (n : ℕ) → position p xs ≡ Some n → position p (xs ++ ys) ≡ Some n
position-append_found p [] ys n h = cc
position-append_found p (x ∷ xs) ys n h =
    position-cons p x (xs ++ ys) ∙ found_first p x xs ys n (p x) refl (λ m at. position-append_found p xs ys m at) (position p xs) refl (sym (position-cons p x xs) ∙ h)

-- what is true of each is true of the one at a place
pub all_at : {X : Type 0} (P : X → Type 0) (xs : List X) (k : ℕ) (x : X) → All P xs → slice_get xs k ≡ Some x → P x
all_at P xs k x each here = subst P (get_or_from_slice_get xs k x x here) (each k x (slice_get_within xs k x here))
