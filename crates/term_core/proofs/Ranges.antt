-- Lemmas on the range of integers, and on the leftmost integer out of it.
use Rattle.std.proofs.Common.{◌≡◌, ℕ, ◌+◌, ◌≤◌, Bool, true, false, cond, Option, None, Some, List, length, ℤ, pos, negsuc, refl, ap, ◌∙◌, arith}
use Rattle.std.proofs.lemmas.Bool.Decides.{nat_tests}
use Rattle.std.proofs.lemmas.Int.{ints}
use Rattle.term_core.specs.PlainTerm.{TermOf, RowOf, integer_leaf, atom_leaf, tuple_of, list_of, no_terms, term_then, EachInRow}
use Rattle.term_core.specs.Written.{written, IsTermInteger, is_term_integer, integer_of, IntegersFit, place_or, outside_of, outside_in}
use Rattle.term_core.proofs.IntegerTexts.{range_pos, range_negsuc}

-- the test says whether an integer is a term
pub is_term_integer-from : (z : ℤ) → IsTermInteger z → is_term_integer z ≡ true
is_term_integer-from (pos n) range = let small = range_pos n range in grind (arith, nat_tests)
is_term_integer-from (negsuc n) range = let small = range_negsuc n range in grind (arith, nat_tests)

-- what passes the test is small
small_then : (n : ℕ) → is_term_integer (pos n) ≡ true → n ≤ 576460752303423487
small_then n h = grind (arith, nat_tests)

-- what passes the test is a term
pub IsTermInteger-from : (z : ℤ) → is_term_integer z ≡ true → IsTermInteger z
IsTermInteger-from (pos n) h = let small = small_then n h in record { low = omega (arith, ints); high = omega (arith, ints) }
IsTermInteger-from (negsuc n) h = let small = small_then n h in record { low = omega (arith, ints); high = omega (arith, ints) }

-- no place, nor one behind it
none_places : (o : Option ℕ) (n : ℕ) (later : Option ℕ) → place_or o n later ≡ None → (o ≡ None) × (later ≡ None)
none_places None n None h = (refl, refl)
none_places o n later h = cc

-- by the test
fits_if : (z : ℤ) (b : Bool) → is_term_integer z ≡ b → cond {A = Option ℕ} b None (Some 0) ≡ None → IsTermInteger z
fits_if z true e h = IsTermInteger-from z e
fits_if z false e h = cc

-- where there is no such integer, each fits
mutual
  pub fits_of_none : (t : TermOf (List ℕ) (List ℕ)) → outside_of t ≡ None → IntegersFit t
  fits_of_none (integer_leaf text) h = fits_if (integer_of text) (is_term_integer (integer_of text)) refl h
  fits_of_none (atom_leaf text) h = tt
  fits_of_none (tuple_of row) h = row_fits_of_none row (none_places None 1 (outside_in row) h).1
  fits_of_none (list_of row) h = row_fits_of_none row (none_places None 1 (outside_in row) h).1

  -- the same of a row
  row_fits_of_none : (row : RowOf (List ℕ) (List ℕ)) → outside_in row ≡ None → EachInRow (λ text. IsTermInteger (integer_of text)) (λ _. Unit {0}) row
  row_fits_of_none no_terms h = tt
  row_fits_of_none (term_then t row) h =
      let parts = none_places (outside_of t) (length (written t) + 1) (outside_in row) h in
      (fits_of_none t parts.0, row_fits_of_none row parts.1)

-- where each fits, there is none
mutual
  pub none_of_fits : (t : TermOf (List ℕ) (List ℕ)) → IntegersFit t → outside_of t ≡ None
  none_of_fits (integer_leaf text) h = ap (λ b. cond {A = Option ℕ} b None (Some 0)) (is_term_integer-from (integer_of text) h)
  none_of_fits (atom_leaf text) h = refl
  none_of_fits (tuple_of row) h = ap (place_or None 1) (row_none_of_fits row h)
  none_of_fits (list_of row) h = ap (place_or None 1) (row_none_of_fits row h)

  -- the same of a row
  row_none_of_fits : (row : RowOf (List ℕ) (List ℕ)) → EachInRow (λ text. IsTermInteger (integer_of text)) (λ _. Unit {0}) row → outside_in row ≡ None
  row_none_of_fits no_terms h = refl
  row_none_of_fits (term_then t row) h = ap (λ o. place_or o (length (written t) + 1) (outside_in row)) (none_of_fits t h.0) ∙ ap (place_or None (length (written t) + 1)) (row_none_of_fits row h.1)
