-- Lemmas on what is left of a list from a place on, and on places that are counted from there.
use Rattle.std.proofs.Common.{◌≡◌, ℕ, suc, ◌+◌, ◌<◌, List, ◌∷◌, length, drop, get_or, Option, None, Some, refl, sym, ap, ◌∙◌, arith, add-one, drop-cons, add_assoc, ◌-◌, take}
use Rattle.std.proofs.lemmas.List.{take_all, length-drop}
use Rattle.term_core.specs.Written.{place_or}

-- what is left from a place on begins with what stands there
pub left_from : {X : Type 0} (xs : List X) (i : ℕ) (x : X) → x ≡ get_or xs i x → i < length xs → drop i xs ≡ x ∷ drop (i + 1) xs
left_from xs i x at less =
    drop-cons xs i x less ∙ ap (λ y. y ∷ drop (suc i) xs) (sym at) ∙ ap (λ n. x ∷ drop n xs) (sym (add-one i))

-- of bytes
pub left_byte : (text : List ℕ) (i c : ℕ) → c ≡ get_or text i 0 → i < length text → drop i text ≡ c ∷ drop (i + 1) text
left_byte text i c at less =
    drop-cons text i 0 less ∙ ap (λ b. b ∷ drop (suc i) text) (sym at) ∙ ap (λ n. c ∷ drop n text) (sym (add-one i))

-- all that is left is left
pub rest_is : (text : List ℕ) (i : ℕ) → take (length text - i) (drop i text) ≡ drop i text
rest_is text i = take_all (length text - i) (drop i text) (omega (arith, length-drop i text))

-- two shifts are one
pub place_or-twice : (m n : ℕ) (o : Option ℕ) → place_or None m (place_or None n o) ≡ place_or None (m + n) o
place_or-twice m n None = refl
place_or-twice m n (Some i) = ap Some (sym (add_assoc m n i))

-- no shift changes nothing
pub place_or-none : (o : Option ℕ) → place_or None 0 o ≡ o
place_or-none None = refl
place_or-none (Some i) = ap Some (omega arith)
