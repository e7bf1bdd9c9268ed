-- A text has one term, whose integers have 60 bits, and leaves one table of names.
use Rattle.std.proofs.Common.{◌≡◌, ℕ, List, sym, ap, ◌∙◌, subst}
use Rattle.term_core.specs.declared.term.Term.{Term}
use Rattle.term_core.specs.PlainTerm.{map_leaves, atoms_of}
use Rattle.term_core.specs.TermText.{TermText, number_in, names_with_all}
use Rattle.term_core.specs.Written.{integer_of, IsTermInteger}
use Rattle.term_core.proofs.PlainTerms.{plain-injective}
use Rattle.term_core.proofs.TextForms.{IsTextOf-unique}
use Rattle.term_core.specs.Image.{HasTermIntegers}
use Rattle.term_core.specs.Plain.{plain}
use Rattle.term_core.proofs.LeafFacts.{EachLeaf-weaker, EachLeaf-map}

-- what two readings of one text share
pub record IsSameReading {T : Type 0} (x y : T) (after later : List (List ℕ)) : Type 0 where
  pub value : x ≡ y
  pub names : after ≡ later

-- a text has one term, and leaves one table of names
pub TermText-unique : (before : List (List ℕ)) (text : List ℕ) (t u : Term) (after later : List (List ℕ)) → TermText before text t after → TermText before text u later → IsSameReading t u after later
TermText-unique before text t u after later h k =
    let form = IsTextOf-unique text h.form k.form (record { whole = h.whole; leaves = h.leaves }) (record { whole = k.whole; leaves = k.leaves }) in
    let names : after ≡ later = h.named ∙ ap (λ form. names_with_all before (atoms_of form)) form ∙ sym k.named in
    record {
      value = plain-injective t u (h.value ∙ ap (map_leaves integer_of (number_in after)) form ∙ ap (λ ns. map_leaves integer_of (number_in ns) k.form) names ∙ sym k.value);
      names = names;
    }

-- a term that was read has integers of 60 bits
pub integers_fit_read : (before : List (List ℕ)) (text : List ℕ) (term : Term) (after : List (List ℕ)) → TermText before text term after → HasTermIntegers (plain term)
integers_fit_read before text term after t =
    subst HasTermIntegers (sym t.value)
    (EachLeaf-map IsTermInteger (λ _. Unit {0}) integer_of (number_in after) t.form
    (EachLeaf-weaker (λ s. IsTermInteger (integer_of s)) (λ s. IsTermInteger (integer_of s)) (λ _. Unit {0}) (λ _. Unit {0}) (λ s k. k) (λ s k. tt) t.form t.fits))
