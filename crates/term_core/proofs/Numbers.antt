-- Lemmas on the numbers of atoms as names grow.
use Rattle.std.proofs.Common.{◌≡◌, ℕ, ◌≤◌, cond, List, [], ◌∷◌, ◌++◌, length, Option, None, Some, is_some, bytes_eq, refl, ap, ◌∙◌, arith, length-append}
use Rattle.std.proofs.lemmas.Slice.Eq.{bytes_eq-Decides}
use Rattle.term_core.specs.Names.{Extends, number_of, names_with}
use Rattle.term_core.specs.TermText.{names_with_all}
use Rattle.term_core.proofs.GrownNames.{Extends-refl, Extends-trans, names_with-Extends}
use Rattle.term_core.proofs.Places.{position-append_one, position-append_found}

-- a text that has a number keeps it
pub number_of-Extends : (before after : List (List ℕ)) (text : List ℕ) (n : ℕ) → Extends before after → number_of before text ≡ Some n → number_of after text ≡ Some n
number_of-Extends before after text n grown at = ap (λ names. number_of names text) grown.whole ∙ position-append_found (bytes_eq text) before grown.more n at

-- naming more texts keeps the names before
pub names_with_all-Extends : (names : List (List ℕ)) (texts : List (List ℕ)) → Extends names (names_with_all names texts)
names_with_all-Extends names [] = Extends-refl names
names_with_all-Extends names (text ∷ texts) = Extends-trans names (names_with names text) (names_with_all names (text ∷ texts)) (names_with-Extends names text) (names_with_all-Extends (names_with names text) texts)

-- names that extend others are as many at least
pub length-Extends : (before after : List (List ℕ)) → Extends before after → length before ≤ length after
length-Extends before after grown = omega (arith, length-append before grown.more, ap length grown.whole)

-- texts in two rows are named one row after the other
pub names_with_all-append : (names : List (List ℕ)) (texts more : List (List ℕ)) → names_with_all names (texts ++ more) ≡ names_with_all (names_with_all names texts) more
names_with_all-append names [] more = refl
names_with_all-append names (text ∷ texts) more = names_with_all-append (names_with names text) texts more

-- by what the look-up finds
named_at : (names : List (List ℕ)) (text : List ℕ) (o : Option ℕ) → number_of names text ≡ o → (n : ℕ) × (number_of (cond (is_some o) names (names ++ text ∷ [])) text ≡ Some n)
named_at names text (Some n) e = (n, e)
named_at names text None e = (length names, position-append_one (bytes_eq text) names text e ((bytes_eq-Decides text text).1 refl))

-- a text that is named has a number
pub number_of-named : (names : List (List ℕ)) (text : List ℕ) → (n : ℕ) × (number_of (names_with names text) text ≡ Some n)
number_of-named names text = named_at names text (number_of names text) refl
