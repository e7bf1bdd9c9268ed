-- What is read of a text that stands in a line is what its written term says.
use Rattle.std.proofs.Common.{◌≡◌, ℕ, ◌<◌, pos, Bool, true, false, ◌==◌, ◌||◌, List, [], ◌∷◌, length, Option, None, Some, is_none, is_some, unwrap_or, All, IsSome, Result, Ok, Err, IfOk, IsTrue, refl, sym, ap, ◌∙◌, subst, arith}
use Rattle.std.specs.List.{list_all}
use Rattle.std.proofs.lemmas.Bool.Decides.{Decides-eqb}
use Rattle.std.proofs.lemmas.List.Elements.{All-nil, All-cons}
use Rattle.term_core.specs.declared.term.Term.{Term}
use Rattle.term_core.specs.Faults.{IsTextOf}
use Rattle.term_core.specs.Names.{IsNames, number_of}
use Rattle.term_core.specs.Plain.{plain}
use Rattle.term_core.specs.PlainTerm.{integer_leaf, atom_leaf, map_leaves, atoms_of, term_words}
use Rattle.term_core.specs.Scanning.{at_start, syntax_fault}
use Rattle.term_core.specs.TermForms.{is_term_text, is_bracketed, tree_of, term_atoms, text_words, is_wide_text, term_in, IsFormOf, is_in_brackets, IsPrinted}
use Rattle.term_core.specs.TermText.{IsTerm, number_in, names_with_all, term_text}
use Rattle.term_core.specs.Tokens.{tokens_in, built, outside_at}
use Rattle.term_core.specs.Tops.{top_of}
use Rattle.term_core.specs.Written.{WrittenTerm, written, HasLeafTexts, integer_of, outside_of}
use Rattle.term_core.proofs.GrownTerms.{HasNumber, HasNumber-all, TermText-term_text}
use Rattle.term_core.proofs.LeafFacts.{EachOf, map_leaves-id}
use Rattle.term_core.proofs.LeafTexts.{is_leaf_byte, LeafText, LeafText-integer, LeafText-atom}
use Rattle.term_core.proofs.Ranges.{none_of_fits}
use Rattle.term_core.proofs.ReadingLaws.{TermText-is_text, TermText-words}
use Rattle.term_core.proofs.Scanning.Faults.{text_if}
use Rattle.term_core.proofs.Scanning.Sound.{FormOf}
use Rattle.term_core.proofs.TermBytes.{nonempty-written}
use Rattle.term_core.proofs.TextForms.{text_words as words_of_text, text_atoms, text_built, text_outside, text_no_fault}
use Rattle.term_core.proofs.Truths.{false_is_no_true, is_some_at, none_by}
use Rattle.std.proofs.lemmas.Bool.{and_parts, false_from_ne_true}

-- what is none
none_if : {X : Type 0} (o : Option X) → is_none o ≡ true → o ≡ None
none_if None h = refl
none_if (Some x) h = cc

-- a term's text has no fault
pub no_fault_if : (text : List ℕ) → IsTrue (is_term_text text) → syntax_fault at_start text ≡ None
unfolding is_term_text
no_fault_if text h = none_if (syntax_fault at_start text) h

-- one that is not wide has no integer out of range
pub none_outside_if : (text : List ℕ) → is_wide_text text ≡ false → outside_at false text ≡ None
unfolding is_wide_text
none_outside_if text h = none_by (outside_at false text) h

-- what is built is what the text says
pub one_term : {E : Type 0} (names : List (List ℕ)) (text : List ℕ) (r : Result Term E) → IfOk r (λ term. built integer_of (number_in names) (tokens_in false text) [] [] ≡ plain term ∷ []) → IfOk r (λ term. plain term ≡ term_in names text)
unfolding term_in
one_term names text (Ok term) h = ap (λ ts. unwrap_or (top_of ts) (integer_leaf (pos 0))) (sym h)
one_term names text (Err e) h = tt

-- a term's text has a written term
pub form_if : (text : List ℕ) → IsTrue (is_term_text text) → FormOf text
form_if text h = text_if text (no_fault_if text h)

-- a text with a written term is a term's
pub is_term_text-form : (text : List ℕ) (form : WrittenTerm) → IsTextOf text form → IsTrue (is_term_text text)
unfolding is_term_text
is_term_text-form text form h = ap is_none (text_no_fault text form h)

-- its tree is that term
pub tree_of-form : (text : List ℕ) (form : WrittenTerm) → IsTextOf text form → tree_of text ≡ form
unfolding tree_of
tree_of-form text form h = ap (λ ts. unwrap_or (top_of ts) (integer_leaf [])) (text_built (λ t. t) (λ t. t) text form h) ∙ map_leaves-id form

-- its atoms are the term's
pub term_atoms-form : (text : List ℕ) (form : WrittenTerm) → IsTextOf text form → term_atoms text ≡ atoms_of form
unfolding term_atoms
term_atoms-form text form h = text_atoms text form h

-- its words
pub text_words-form : (text : List ℕ) (form : WrittenTerm) → IsTextOf text form → text_words text ≡ term_words form
unfolding text_words
text_words-form text form h = words_of_text text form h

-- whether it is wide
pub is_wide_text-form : (text : List ℕ) (form : WrittenTerm) → IsTextOf text form → is_wide_text text ≡ is_some (outside_of form)
unfolding is_wide_text
is_wide_text-form text form h = ap is_some (text_outside text form h)

-- and what it says under names
pub term_in-form : (text : List ℕ) (form : WrittenTerm) (names : List (List ℕ)) → IsTextOf text form → term_in names text ≡ map_leaves integer_of (number_in names) form
unfolding term_in
term_in-form text form names h = ap (λ ts. unwrap_or (top_of ts) (integer_leaf (pos 0))) (text_built integer_of (number_in names) text form h)

-- all of it
pub form_is : (text : List ℕ) (form : WrittenTerm) → IsTextOf text form → IsFormOf text form
form_is text form h = record {
  is_text = h;
  tree = tree_of-form text form h;
  atoms = term_atoms-form text form h;
  words = text_words-form text form h;
  wide = is_wide_text-form text form h;
  value = λ names. term_in-form text form names h;
}

-- so each term's text is that of its tree
pub tree_is : (text : List ℕ) → IsTrue (is_term_text text) → IsFormOf text (tree_of text)
tree_is text h =
    let found = form_if text h in
    subst (IsFormOf text) (sym (tree_of-form text found.form found.is_text)) (form_is text found.form found.is_text)

-- by one of two tests
either_test : {P : Type 0} (a b : Bool) → (a ≡ true → P) → (b ≡ true → P) → (a || b) ≡ true → P
either_test true b f g h = f refl
either_test false b f g h = g h

-- an opening bracket stands in no integer or atom
opens_no_leaf : (c : ℕ) → (c == 123 || c == 91) ≡ true → is_leaf_byte c ≡ true → ⊥
opens_no_leaf c h k =
    either_test (c == 123) (c == 91) (λ e. false_is_no_true (sym (ap is_leaf_byte ((Decides-eqb c 123).0 e)) ∙ k)) (λ e. false_is_no_true (sym (ap is_leaf_byte ((Decides-eqb c 91).0 e)) ∙ k)) h

-- so no leaf's text begins with one
leaf_bracketed : (text : List ℕ) → LeafText text → is_bracketed text ≡ false
leaf_bracketed [] h = refl
leaf_bracketed (c ∷ rest) h =
    let parts = and_parts (is_leaf_byte c) (list_all is_leaf_byte rest) h.bytes in
    false_from_ne_true (c == 123 || c == 91) (λ is. opens_no_leaf c is parts.0)

-- but that of a tuple or a list
bracketed_written : (form : WrittenTerm) → HasLeafTexts form → is_bracketed (written form) ≡ is_in_brackets form
bracketed_written (integer_leaf text) h = leaf_bracketed text (LeafText-integer text h)
bracketed_written (atom_leaf text) h = leaf_bracketed text (LeafText-atom text h)
bracketed_written form h = refl

-- a text begins with a bracket exactly where its term stands in brackets
pub is_bracketed-form : (text : List ℕ) (form : WrittenTerm) → IsTextOf text form → is_bracketed text ≡ is_in_brackets form
is_bracketed-form text form h = ap is_bracketed h.whole ∙ bracketed_written form h.leaves

-- and there is one
pub nonempty-is_term_text : (text : List ℕ) → IsTrue (is_term_text text) → 0 < length text
nonempty-is_term_text text h = let form = form_if text h in omega (arith, ap length form.is_text.whole, nonempty-written form.form form.is_text.leaves)

-- what has a number is there
held_by : (names : List (List ℕ)) (texts : List (List ℕ)) → EachOf (HasNumber names) texts → All (λ atom. IsSome (number_of names atom)) texts
held_by names [] h = All-nil (λ atom. IsSome (number_of names atom))
held_by names (text ∷ texts) h =
    All-cons (λ atom. IsSome (number_of names atom)) text texts (is_some_at (number_of names text) (h.0).number (h.0).is) (held_by names texts h.1)

-- what is printed of a term is read as that term
pub printed_is : (names : List (List ℕ)) (term : Term) → IsNames names → IsTerm names term → IsPrinted names term
printed_is names term sound is =
    let text : List ℕ = term_text names term in
    let t = TermText-term_text names term sound is in
    let h : IsTextOf text t.form = TermText-is_text names text term names t in
    let kept : names_with_all names (term_atoms text) ≡ names = ap (names_with_all names) (term_atoms-form text t.form h) ∙ sym t.named in
    record {
      is_text = is_term_text-form text t.form h;
      narrow = is_wide_text-form text t.form h ∙ ap is_some (none_of_fits t.form t.fits);
      words = text_words-form text t.form h ∙ sym (TermText-words names text term names t);
      value = term_in-form text t.form names h ∙ sym t.value;
      held = held_by names (term_atoms text) (subst (λ (ns : List (List ℕ)). EachOf (HasNumber ns) (term_atoms text)) kept (HasNumber-all names (term_atoms text)));
      kept = kept;
    }
