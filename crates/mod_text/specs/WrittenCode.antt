-- How a proof tells written terms apart: each has a tree of numbers of its own.
use Rattle.std.specs.Prelude.{◌≡◌, ℕ, List, refl}
use Rattle.std.proofs.Common.{ap, arith}
use base.Stored.{Gv, gnil, gnum, gcons, num}
use Rattle.std.specs.Coded.{Coded, coded_ℕ, coded_list}
use Rattle.term_core.specs.PlainTerm.{TermOf, RowOf, integer_leaf, atom_leaf, tuple_of, list_of, no_terms, term_then}
use Rattle.term_core.specs.Written.{WrittenTerm}

-- the code of a text
abbrev text_code : Coded (List ℕ)
text_code = coded_list coded_ℕ

-- the front of a tree
abbrev tree_front : Gv → Gv
tree_front gnil = gnil
tree_front (gnum n) = gnil
tree_front (gcons a b) = a

-- the rest of a tree
abbrev tree_rest : Gv → Gv
tree_rest gnil = gnil
tree_rest (gnum n) = gnil
tree_rest (gcons a b) = b

-- 0 of what has no front, else 1
abbrev tree_kind : Gv → ℕ
tree_kind gnil = 0
tree_kind (gnum n) = 0
tree_kind (gcons a b) = 1

-- what stands in front of a tree tells integers, atoms, tuples and lists apart
abbrev mutual
  pub code_written : TermOf (List ℕ) (List ℕ) → Gv
  code_written (integer_leaf text) = gcons (gnum 0) (text_code.code text)
  code_written (atom_leaf text) = gcons (gnum 1) (text_code.code text)
  code_written (tuple_of row) = gcons (gnum 2) (code_parts row)
  code_written (list_of row) = gcons (gnum 3) (code_parts row)

  -- the same of a row
  pub code_parts : RowOf (List ℕ) (List ℕ) → Gv
  code_parts no_terms = gnil
  code_parts (term_then t row) = gcons (code_written t) (code_parts row)

-- the number in front of a tree
abbrev tree_tag : Gv → ℕ
tree_tag g = num (tree_front g)

-- terms with one tree are one term, and so are rows
mutual
  pub code_written_injective : (t u : TermOf (List ℕ) (List ℕ)) → code_written t ≡ code_written u → t ≡ u
  code_written_injective (integer_leaf x) (integer_leaf y) p = ap integer_leaf (text_code.inj x y (ap tree_rest p))
  code_written_injective (atom_leaf x) (atom_leaf y) p = ap atom_leaf (text_code.inj x y (ap tree_rest p))
  code_written_injective (tuple_of row) (tuple_of other) p = ap tuple_of (code_parts_injective row other (ap tree_rest p))
  code_written_injective (list_of row) (list_of other) p = ap list_of (code_parts_injective row other (ap tree_rest p))
  code_written_injective t u p = absurd (omega (arith, ap tree_tag p))

  -- the same of rows
  pub code_parts_injective : (r s : RowOf (List ℕ) (List ℕ)) → code_parts r ≡ code_parts s → r ≡ s
  code_parts_injective no_terms no_terms p = refl
  code_parts_injective no_terms (term_then t row) p = absurd (omega (arith, ap tree_kind p))
  code_parts_injective (term_then t row) no_terms p = absurd (omega (arith, ap tree_kind p))
  code_parts_injective (term_then t row) (term_then u other) p =
      λ i. term_then (code_written_injective t u (ap tree_front p) i) (code_parts_injective row other (ap tree_rest p) i)

-- the code of a written term
abbrev pub written_code : Coded WrittenTerm
written_code = record { code = code_written; inj = code_written_injective }
