-- Lemmas on names as they grow: each text keeps its number, and each term its text.
use Rattle.std.proofs.Common.{◌≡◌, ℕ, ◌<◌, Bool, true, false, cond, ◌⊎◌, List, [], ◌∷◌, ◌++◌, Option, None, Some, is_some, slice_get, refl, sym, ap, ◌∙◌, inl, inr}
use Rattle.std.proofs.lemmas.List.{append-nil, append_assoc}
use Rattle.std.proofs.lemmas.Option.{slice_get_within}
use Rattle.term_core.specs.Names.{IsNames, Extends, number_of, names_with}
use Rattle.term_core.proofs.NameTables.{slice_get-number_of, number_of-slice_get}
use Rattle.term_core.proofs.Truths.{three_ways}

-- names extend themselves
pub Extends-refl : (names : List (List ℕ)) → Extends names names
Extends-refl names = record { more = []; whole = sym (append-nil names) }

-- and what extends what extends them
pub Extends-trans : (xs ys zs : List (List ℕ)) → Extends xs ys → Extends ys zs → Extends xs zs
Extends-trans xs ys zs h k = record {
  more = h.more ++ k.more;
  whole = k.whole ∙ ap (λ names. names ++ k.more) h.whole ∙ append_assoc xs h.more k.more;
}

-- whether it is new or not, what was there stays in front
joins : (names : List (List ℕ)) (text : List ℕ) (found : Bool) → Extends names (cond found names (names ++ text ∷ []))
joins names text true = Extends-refl names
joins names text false = record { more = text ∷ []; whole = refl }

-- naming a text keeps the names before
pub names_with-Extends : (names : List (List ℕ)) (text : List ℕ) → Extends names (names_with names text)
names_with-Extends names text = joins names text (is_some (number_of names text))

-- a text stands at one place of a table
nowhere_else : (names : List (List ℕ)) (text : List ℕ) (m n : ℕ) → IsNames names → slice_get names m ≡ Some text → slice_get names n ≡ Some text → (m < n) ⊎ ((n < m) ⊎ (m ≡ n)) → m ≡ n
nowhere_else names text m n sound at there (inl less) = absurd (sound.apart m n less (slice_get_within names n text there) (at ∙ sym there))
nowhere_else names text m n sound at there (inr (inl more)) = absurd (sound.apart n m more (slice_get_within names m text at) (there ∙ sym at))
nowhere_else names text m n sound at there (inr (inr e)) = e

-- what stands there has its number, by what the look-up finds
numbered : (names : List (List ℕ)) (text : List ℕ) (n : ℕ) → IsNames names → slice_get names n ≡ Some text → (o : Option ℕ) → number_of names text ≡ o → o ≡ Some n
numbered names text n sound at None e = absurd (number_of-slice_get names text n at e)
numbered names text n sound at (Some m) e =
    ap Some (nowhere_else names text m n sound (slice_get-number_of names text m e) at (three_ways m n))

-- the text at a place of a table has that number
pub number_of-at : (names : List (List ℕ)) (text : List ℕ) (n : ℕ) → IsNames names → slice_get names n ≡ Some text → number_of names text ≡ Some n
number_of-at names text n sound at = numbered names text n sound at (number_of names text) refl
