-- How a proof tells plain terms apart: each has a tree of numbers of its own.
use Rattle.std.specs.Prelude.{◌≡◌, ℕ, ℤ, List, refl}
use Rattle.std.proofs.Common.{ap, arith}
use base.Stored.{Gv, gnil, gnum, gcons, num}
use Rattle.std.specs.Coded.{Coded, coded_ℤ, coded_list}
use Rattle.term_core.specs.PlainTerm.{TermOf, RowOf, integer_leaf, atom_leaf, tuple_of, list_of, no_terms, term_then, PlainTerm}

-- the front of a tree
abbrev front_of : Gv → Gv
front_of gnil = gnil
front_of (gnum n) = gnil
front_of (gcons a b) = a

-- the rest of a tree
abbrev rest_of : Gv → Gv
rest_of gnil = gnil
rest_of (gnum n) = gnil
rest_of (gcons a b) = b

-- 0 of what has no front, else 1
abbrev front_kind : Gv → ℕ
front_kind gnil = 0
front_kind (gnum n) = 0
front_kind (gcons a b) = 1

-- what stands in front of a tree tells integers, atoms, tuples and lists apart
abbrev mutual
  pub code_term : TermOf ℤ ℕ → Gv
  code_term (integer_leaf z) = gcons (gnum 0) (coded_ℤ.code z)
  code_term (atom_leaf a) = gcons (gnum 1) (gnum a)
  code_term (tuple_of row) = gcons (gnum 2) (code_row row)
  code_term (list_of row) = gcons (gnum 3) (code_row row)

  -- the same of a row
  pub code_row : RowOf ℤ ℕ → Gv
  code_row no_terms = gnil
  code_row (term_then t row) = gcons (code_term t) (code_row row)

-- the number in front of a tree
abbrev tag : Gv → ℕ
tag g = num (front_of g)

-- terms with one tree are one term, and so are rows
mutual
  pub code_term_injective : (t u : TermOf ℤ ℕ) → code_term t ≡ code_term u → t ≡ u
  code_term_injective (integer_leaf y) (integer_leaf z) p = ap integer_leaf (coded_ℤ.inj y z (ap rest_of p))
  code_term_injective (atom_leaf a) (atom_leaf b) p = ap (λ g. atom_leaf (num (rest_of g))) p
  code_term_injective (tuple_of row) (tuple_of other) p = ap tuple_of (code_row_injective row other (ap rest_of p))
  code_term_injective (list_of row) (list_of other) p = ap list_of (code_row_injective row other (ap rest_of p))
  code_term_injective t u p = absurd (omega (arith, ap tag p))

  -- the same of rows
  pub code_row_injective : (r s : RowOf ℤ ℕ) → code_row r ≡ code_row s → r ≡ s
  code_row_injective no_terms no_terms p = refl
  code_row_injective no_terms (term_then t row) p = absurd (omega (arith, ap front_kind p))
  code_row_injective (term_then t row) no_terms p = absurd (omega (arith, ap front_kind p))
  code_row_injective (term_then t row) (term_then u other) p =
      λ i. term_then (code_term_injective t u (ap front_of p) i) (code_row_injective row other (ap rest_of p) i)

-- the code of a plain term
abbrev pub plain_term_code : Coded PlainTerm
plain_term_code = record { code = code_term; inj = code_term_injective }

-- the code of a list of plain terms
abbrev pub plain_terms_code : Coded (List PlainTerm)
plain_terms_code = coded_list plain_term_code
