-- A term and its plain term say the same.
use Rattle.std.proofs.Common.{◌≡◌, ℕ, ℤ, refl, sym, ap, ◌∙◌}
use Rattle.term_core.specs.declared.term.Term.{Term}
use Rattle.term_core.specs.declared.term.Term.TheVariants.{Tuple, List as ListOf}
use Rattle.term_core.specs.Plain.{plain, term_of}
use Rattle.term_core.specs.PlainTerm.{TermOf, tuple_of, list_of}
use Rattle.term_core.proofs.TokenLaws.{row_of-terms_of, terms_of-row_of}
use Rattle.std.specs.Bool.{Decides}
use Rattle.term_core.specs.Same.{is_same, is_same-Decides}

-- from a term and back
pub term_of-plain : (t : Term) → term_of (plain t) ≡ t
term_of-plain (Tuple ts) = ap Tuple (terms_of-row_of ts)
term_of-plain (ListOf ts) = ap ListOf (terms_of-row_of ts)
term_of-plain t = refl

-- from a plain term and back
pub plain-term_of : (t : TermOf ℤ ℕ) → plain (term_of t) ≡ t
plain-term_of (tuple_of row) = ap tuple_of (row_of-terms_of row)
plain-term_of (list_of row) = ap list_of (row_of-terms_of row)
plain-term_of t = refl

-- so terms with one plain term are one term
pub plain-injective : (t u : Term) → plain t ≡ plain u → t ≡ u
plain-injective t u e = sym (term_of-plain t) ∙ ap term_of e ∙ term_of-plain u

-- the test of `==` is true exactly of one term
pub same_term-Decides : (t u : Term) → Decides (is_same (plain t) (plain u)) (t ≡ u)
same_term-Decides t u = (λ h. plain-injective t u ((is_same-Decides (plain t) (plain u)).0 h), λ e. (is_same-Decides (plain t) (plain u)).1 (ap plain e))
