-- No text is an atom's and an integer's.
use Rattle.std.proofs.Common.{◌≡◌, ℕ, ◌≤◌, true, false, List, [], ◌∷◌, get_or, ap, arith, IsTrue}
use Rattle.std.proofs.lemmas.Bool.Decides.{nat_tests}
use Rattle.term_core.specs.Names.{is_atom_text}
use Rattle.term_core.specs.Written.{is_integer_text}
use Rattle.term_core.proofs.IntegerTexts.{IntegerShape, Zero, Minus, Plain, shape_of, Positive-from}
use Rattle.std.proofs.lemmas.Bool.{false_from_ne_true}

-- an atom begins with a small letter
small_letter : (text : List ℕ) → is_atom_text text ≡ true → 97 ≤ get_or text 0 0
small_letter [] h = cc
small_letter (c ∷ rest) h = grind (arith, nat_tests)

-- an integer begins with a minus or a digit
starts_low : (text : List ℕ) → IntegerShape text → get_or text 0 0 ≤ 57
starts_low text (Zero e) = omega (arith, ap (λ t. get_or t 0 0) e)
starts_low text (Minus digits e p) = omega (arith, ap (λ t. get_or t 0 0) e)
starts_low text (Plain p) = (Positive-from text p).high

-- no text is an atom's and an integer's
pub atoms_are_no_integers : (text : List ℕ) → is_atom_text text ≡ true → is_integer_text text ≡ true → ⊥
atoms_are_no_integers text a i = omega (arith, small_letter text a, starts_low text (shape_of text i))

-- an integer's text is no atom's
pub no_atom_text : (text : List ℕ) → IsTrue (is_integer_text text) → is_atom_text text ≡ false
no_atom_text text h = false_from_ne_true (is_atom_text text) (λ a. atoms_are_no_integers text a h)

-- an atom's text is no integer's
pub no_integer_text : (text : List ℕ) → IsTrue (is_atom_text text) → is_integer_text text ≡ false
no_integer_text text h = false_from_ne_true (is_integer_text text) (λ i. atoms_are_no_integers text h i)
