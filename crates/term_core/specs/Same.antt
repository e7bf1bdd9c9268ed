-- Which plain terms are the same, as a test. It is true exactly of equal terms.
use Rattle.std.specs.Prelude.{◌≡◌, ℕ, ℤ, Bool, true, false, ◌&&◌, ◌==◌, List, refl}
use Rattle.std.proofs.Common.{ap, sym, ◌∙◌}
use Rattle.std.specs.Bool.{Decides}
use Rattle.std.specs.Cmp.{IsEquivalence, decided, on_equiv, signed_Decides, unsigned_Decides}
use Rattle.std.specs.Ordering.{int_eq}
use Rattle.term_core.specs.PlainTerm.{TermOf, RowOf, integer_leaf, atom_leaf, tuple_of, list_of, no_terms, term_then, PlainTerm, row_of}
use Rattle.std.proofs.lemmas.Bool.{and_parts}

-- the same kind of term with the same parts
abbrev mutual
  pub is_same : TermOf ℤ ℕ → TermOf ℤ ℕ → Bool
  is_same (integer_leaf y) (integer_leaf z) = int_eq y z
  is_same (atom_leaf a) (atom_leaf b) = a == b
  is_same (tuple_of r) (tuple_of s) = is_same_row r s
  is_same (list_of r) (list_of s) = is_same_row r s
  is_same _ _ = false

  -- the same terms in the same order
  pub is_same_row : RowOf ℤ ℕ → RowOf ℤ ℕ → Bool
  is_same_row no_terms no_terms = true
  is_same_row no_terms (term_then u s) = false
  is_same_row (term_then t r) no_terms = false
  is_same_row (term_then t r) (term_then u s) = is_same t u && is_same_row r s

-- lists of the same terms in the same order
abbrev pub are_same : List PlainTerm → List PlainTerm → Bool
are_same ts us = is_same_row (row_of ts) (row_of us)

-- terms that pass the test are one term, and so are rows
mutual
  same_is : (t u : TermOf ℤ ℕ) → is_same t u ≡ true → t ≡ u
  same_is (integer_leaf y) (integer_leaf z) h = ap integer_leaf ((signed_Decides y z).0 h)
  same_is (atom_leaf a) (atom_leaf b) h = ap atom_leaf ((unsigned_Decides a b).0 h)
  same_is (tuple_of r) (tuple_of s) h = ap tuple_of (same_row_is r s h)
  same_is (list_of r) (list_of s) h = ap list_of (same_row_is r s h)
  same_is t u h = cc

  -- the same of rows
  same_row_is : (r s : RowOf ℤ ℕ) → is_same_row r s ≡ true → r ≡ s
  same_row_is no_terms no_terms h = refl
  same_row_is no_terms (term_then u s) h = cc
  same_row_is (term_then t r) no_terms h = cc
  same_row_is (term_then t r) (term_then u s) h =
      let parts = and_parts (is_same t u) (is_same_row r s) h in
      λ i. term_then (same_is t u parts.0 i) (same_row_is r s parts.1 i)

-- and each passes it with itself
mutual
  same_itself : (t : TermOf ℤ ℕ) → is_same t t ≡ true
  same_itself (integer_leaf z) = (signed_Decides z z).1 refl
  same_itself (atom_leaf a) = (unsigned_Decides a a).1 refl
  same_itself (tuple_of r) = same_row_itself r
  same_itself (list_of r) = same_row_itself r

  -- the same of rows
  same_row_itself : (r : RowOf ℤ ℕ) → is_same_row r r ≡ true
  same_row_itself no_terms = refl
  same_row_itself (term_then t r) = λ i. same_itself t i && same_row_itself r i

-- the test is true exactly of equal terms
pub is_same-Decides : (t u : PlainTerm) → Decides (is_same t u) (t ≡ u)
is_same-Decides t u = (same_is t u, λ e. ap (is_same t) (sym e) ∙ same_itself t)

-- and of equal rows
pub is_same_row-Decides : (r s : RowOf ℤ ℕ) → Decides (is_same_row r s) (r ≡ s)
is_same_row-Decides r s = (same_row_is r s, λ e. ap (is_same_row r) (sym e) ∙ same_row_itself r)

-- so it is an equivalence
pub is_same-laws : IsEquivalence is_same
is_same-laws = decided is_same is_same-Decides

-- and so is that of lists
pub are_same-laws : IsEquivalence are_same
are_same-laws = on_equiv row_of (decided is_same_row is_same_row-Decides)
