-- What the text of a written term is, by the code's measures. So a text has one written term.
use Rattle.std.proofs.Common.{◌≡◌, ℕ, false, List, [], ◌∷◌, ◌++◌, None, sym, ap, ◌∙◌, subst, arith}
use Rattle.std.proofs.lemmas.List.{append_assoc, append-nil}
use Rattle.term_core.specs.Faults.{IsTextOf, BeginsTermText}
use Rattle.term_core.specs.PlainTerm.{map_leaves, term_words, atoms_of}
use Rattle.term_core.specs.Scanning.{at_start, syntax_fault}
use Rattle.term_core.specs.Tokens.{tokens_in, starts, atoms_among, AreLeaves, built, outside_at}
use Rattle.term_core.specs.Written.{WrittenTerm, IntegersFit, outside_of}
use Rattle.term_core.proofs.LeafFacts.{map_leaves-id}
use Rattle.term_core.proofs.OutsidePlaces.{outside_is}
use Rattle.term_core.proofs.Scanning.Faults.{text_accepted, not_accepted, fault_stops, start}
use Rattle.term_core.proofs.TokenLaws.{starts-tokens, atoms-tokens, leaves-tokens, built-tokens}
use Rattle.term_core.proofs.WrittenTokens.{tokens_of, tokens_is}
use Rattle.term_core.proofs.Truths.{none_unless}

-- its tokens
pub text_tokens : (text : List ℕ) (form : WrittenTerm) → IsTextOf text form → tokens_in false text ≡ tokens_of form ++ []
text_tokens text form h = ap (tokens_in false) h.whole ∙ tokens_is form h.leaves ∙ sym (append-nil (tokens_of form))

-- its words
pub text_words : (text : List ℕ) (form : WrittenTerm) → IsTextOf text form → starts (tokens_in false text) ≡ term_words form
text_words text form h = omega (arith, ap starts (text_tokens text form h), starts-tokens form [])

-- its atoms
pub text_atoms : (text : List ℕ) (form : WrittenTerm) → IsTextOf text form → atoms_among (tokens_in false text) ≡ atoms_of form
text_atoms text form h = ap atoms_among (text_tokens text form h) ∙ atoms-tokens form h.leaves [] ∙ append-nil (atoms_of form)

-- its leaves
pub text_leaves : (text : List ℕ) (form : WrittenTerm) → IsTextOf text form → IntegersFit form → AreLeaves (tokens_in false text)
text_leaves text form h fits = subst AreLeaves (sym (text_tokens text form h)) (leaves-tokens form h.leaves fits [] tt)

-- its term
pub text_built : {Z A : Type 0} (f : List ℕ → Z) (g : List ℕ → A) (text : List ℕ) (form : WrittenTerm) → IsTextOf text form → built f g (tokens_in false text) [] [] ≡ map_leaves f g form ∷ []
text_built f g text form h = ap (λ ts. built f g ts [] []) (text_tokens text form h) ∙ built-tokens f g form h.leaves [] [] []

-- its leftmost integer out of range
pub text_outside : (text : List ℕ) (form : WrittenTerm) → IsTextOf text form → outside_at false text ≡ outside_of form
text_outside text form h = ap (outside_at false) h.whole ∙ outside_is form h.leaves

-- it has no fault
pub text_no_fault : (text : List ℕ) (form : WrittenTerm) → IsTextOf text form → syntax_fault at_start text ≡ None
text_no_fault text form h = none_unless (syntax_fault at_start text) (λ i e. not_accepted text i (fault_stops text start i e) (text_accepted text form h))

-- one element
same_one : {X : Type 0} (x y : X) → x ∷ [] ≡ y ∷ [] → x ≡ y
same_one x y e = cc

-- a text has one written term
pub IsTextOf-unique : (text : List ℕ) (form other : WrittenTerm) → IsTextOf text form → IsTextOf text other → form ≡ other
IsTextOf-unique text form other h k =
    sym (map_leaves-id form)
    ∙ same_one (map_leaves (λ z. z) (λ a. a) form) (map_leaves (λ z. z) (λ a. a) other) (sym (text_built (λ z. z) (λ a. a) text form h) ∙ text_built (λ z. z) (λ a. a) text other k)
    ∙ map_leaves-id other

-- what some text begins with, it begins with a part of
pub begins_shorter : (front more : List ℕ) → BeginsTermText (front ++ more) → BeginsTermText front
begins_shorter front more h = record { rest = more ++ h.rest; form = h.form; is_text = subst (λ (t : List ℕ). IsTextOf t h.form) (append_assoc front more h.rest) h.is_text }
