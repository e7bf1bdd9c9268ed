-- A loop over a list that looks for an element.
use Rattle.std.proofs.Common.{◌≡◌, ◌||◌, ℕ, ◌+◌, ◌<◌, ◌≤◌, Bool, true, false, List, length, drop, get_or, All, sym, ap, subst, ◌∙◌}
use Rattle.std.proofs.lemmas.List.{at_drop_more, at_drop_all}
use Rattle.std.proofs.lemmas.List.Elements.{All-get_or}
use Rattle.std.specs.List.{list_any}

module _ {X : Type 0} (f : X → Bool) (xs : List X) (i : ℕ) (so_far : list_any f (drop i xs) ≡ list_any f xs) where
  module _ (x : X) (b : Bool) (below : i < length xs) (is : x ≡ get_or xs i x) (test : b ≡ f x) where
    any_next : list_any f (drop i xs) ≡ (b || list_any f (drop (i + 1) xs))
    any_next = at_drop_more (list_any f) xs i x below ∙ ap (λ y. f y || list_any f (drop (i + 1) xs)) (sym is) ∙ ap (λ a. a || list_any f (drop (i + 1) xs)) (sym test)

    -- one passes
    pub any_found : b ≡ true → true ≡ list_any f xs
    any_found h = sym (ap (λ a. a || list_any f (drop (i + 1) xs)) h) ∙ sym any_next ∙ so_far

    -- one does not pass
    pub any_passed : b ≡ false → list_any f (drop (i + 1) xs) ≡ list_any f xs
    any_passed h = sym (ap (λ a. a || list_any f (drop (i + 1) xs)) h) ∙ sym any_next ∙ so_far

  -- none passes
  pub any_none : length xs ≤ i → false ≡ list_any f xs
  any_none end = sym (at_drop_all (list_any f) xs i end) ∙ so_far

-- what holds of each element holds of the next one
pub all_next : {X : Type 0} (P : X → Type 0) (xs : List X) (i : ℕ) (x : X) → All P xs → i < length xs → x ≡ get_or xs i x → P x
all_next P xs i x h below is = subst P (sym is) (All-get_or P xs i x below h)
