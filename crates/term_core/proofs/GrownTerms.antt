-- Lemmas on terms as names grow: each keeps its text, and what is printed of a term that was read is the text that it was read from.
use Rattle.std.proofs.Common.{◌≡◌, ℕ, ℤ, cond, List, [], ◌∷◌, ◌++◌, Some, is_some, unwrap_or, slice_get, IsSome, IsTrue, refl, sym, ap, ◌∙◌, subst}
use Rattle.std.specs.Fmt.{signed_decimal}
use Rattle.term_core.specs.declared.term.Term.{Term}
use Rattle.term_core.specs.Names.{IsNames, Extends, is_atom_text, number_of, names_with}
use Rattle.term_core.specs.Plain.{plain}
use Rattle.term_core.specs.PlainTerm.{map_leaves, EachLeaf, atoms_of}
use Rattle.term_core.specs.TermText.{TermText, IsTerm, atom_text, term_text, number_in, names_with_all}
use Rattle.term_core.specs.Written.{WrittenTerm, written, IsTermInteger, is_integer_text, integer_of, HasLeafTexts}
use Rattle.term_core.proofs.GrownNames.{number_of-at}
use Rattle.term_core.proofs.IntegerTexts.{signed_decimal-integer_of, signed_decimal-says}
use Rattle.term_core.proofs.LeafFacts.{EachOf, EachLeaf-weaker, EachLeaf-both, EachLeaf-map, EachLeaf-atoms, EachOf-atoms, map_leaves-map, map_leaves-same, map_leaves-id}
use Rattle.term_core.proofs.NameTables.{slice_get-number_of, texts_are_atoms}
use Rattle.term_core.proofs.Numbers.{names_with_all-Extends, number_of-Extends, number_of-named}
use Rattle.term_core.proofs.Truths.{some_inside}

-- a text that has a number
pub record HasNumber (names : List (List ℕ)) (text : List ℕ) : Type 0 where
  pub number : ℕ
  pub is : number_of names text ≡ Some number

-- has it in later names
HasNumber-Extends : (before after : List (List ℕ)) (text : List ℕ) → Extends before after → HasNumber before text → HasNumber after text
HasNumber-Extends before after text grown h = record { number = h.number; is = number_of-Extends before after text h.number grown h.is }

-- each text that was named has one
pub HasNumber-all : (names texts : List (List ℕ)) → EachOf (HasNumber (names_with_all names texts)) texts
HasNumber-all names [] = tt
HasNumber-all names (text ∷ texts) =
    let found = number_of-named names text in
    (HasNumber-Extends (names_with names text) (names_with_all names (text ∷ texts)) text (names_with_all-Extends (names_with names text) texts) (record { number = found.0; is = found.1 }), HasNumber-all (names_with names text) texts)

-- and stands at it
pub slice_get-number_in : (names : List (List ℕ)) (text : List ℕ) → HasNumber names text → slice_get names (number_in names text) ≡ Some text
slice_get-number_in names text h = ap (λ o. slice_get names (unwrap_or o 0)) h.is ∙ slice_get-number_of names text h.number h.is

-- so it is what is printed of it
pub atom_text-number_in : (names : List (List ℕ)) (text : List ℕ) → HasNumber names text → atom_text names (number_in names text) ≡ text
atom_text-number_in names text h = ap (λ o. unwrap_or o []) (slice_get-number_in names text h)

-- the atoms of a text have numbers after it
numbered_leaves : (before : List (List ℕ)) (text : List ℕ) (term : Term) (after : List (List ℕ)) (t : TermText before text term after) → EachLeaf (λ text. IsTermInteger (integer_of text)) (HasNumber after) t.form
numbered_leaves before text term after t =
    EachLeaf-atoms (λ text. IsTermInteger (integer_of text)) (λ _. Unit {0}) (HasNumber after) t.form t.fits
    (subst (λ (names : List (List ℕ)). EachOf (HasNumber names) (atoms_of t.form)) (sym t.named) (HasNumber-all before (atoms_of t.form)))

-- what an integer's text says is written so
integer_back : (text : List ℕ) → IsTrue (is_integer_text text) × IsTermInteger (integer_of text) → signed_decimal (integer_of text) ≡ text
integer_back text h = sym (signed_decimal-integer_of text h.0 h.1)

-- and what is printed of a term that was read is the text that it was read from
pub term_text-TermText : (before : List (List ℕ)) (text : List ℕ) (term : Term) (after : List (List ℕ)) → TermText before text term after → term_text after term ≡ text
term_text-TermText before text term after t =
    ap (λ p. written (map_leaves signed_decimal (atom_text after) p)) t.value
    ∙ ap written (map_leaves-map signed_decimal (atom_text after) integer_of (number_in after) t.form
    ∙ map_leaves-same (λ text. signed_decimal (integer_of text)) (λ text. text) (λ text. atom_text after (number_in after text)) (λ text. text) t.form
    (EachLeaf-weaker (λ text. IsTrue (is_integer_text text) × IsTermInteger (integer_of text)) (λ text. signed_decimal (integer_of text) ≡ text) (λ text. IsTrue (is_atom_text text) × HasNumber after text) (λ text. atom_text after (number_in after text) ≡ text)
    integer_back (λ text h. atom_text-number_in after text h.1) t.form
    (EachLeaf-both (λ text. IsTrue (is_integer_text text)) (λ text. IsTermInteger (integer_of text)) (λ text. IsTrue (is_atom_text text)) (HasNumber after) t.form t.leaves (numbered_leaves before text term after t)))
    ∙ map_leaves-id t.form)
    ∙ sym t.whole

-- what an integer is written as is an integer's text, which says it
record SaysBack (z : ℤ) : Type 0 where
  form : IsTrue (is_integer_text (signed_decimal z))
  value : integer_of (signed_decimal z) ≡ z

-- of each integer that is a term
says_back : (z : ℤ) → IsTermInteger z → SaysBack z
says_back z range = let says = signed_decimal-says z range in record { form = says.form; value = says.value }

-- the text of an atom that is held is an atom's, with its number
record IsBack (names : List (List ℕ)) (atom : ℕ) : Type 0 where
  form : IsTrue (is_atom_text (atom_text names atom))
  number : number_of names (atom_text names atom) ≡ Some atom

-- of each atom that is held
is_back : (names : List (List ℕ)) → IsNames names → (atom : ℕ) → IsSome (slice_get names atom) → IsBack names atom
is_back names sound atom held =
    let inside = some_inside (slice_get names atom) held in
    let is : atom_text names atom ≡ inside.0 = ap (λ o. unwrap_or o []) inside.1 in
    record {
      form = subst (λ (text : List ℕ). IsTrue (is_atom_text text)) (sym is) (texts_are_atoms names inside.0 atom sound inside.1);
      number = ap (number_of names) is ∙ number_of-at names inside.0 atom sound inside.1;
    }

-- a text with a number adds no name
no_new : (names : List (List ℕ)) (text : List ℕ) (n : ℕ) → number_of names text ≡ Some n → names_with names text ≡ names
no_new names text n h = ap (λ o. cond (is_some o) names (names ++ text ∷ [])) h

-- nor do many
none_new : (names texts : List (List ℕ)) → EachOf (HasNumber names) texts → names ≡ names_with_all names texts
none_new names [] h = refl
none_new names (text ∷ texts) h = none_new names texts h.1 ∙ ap (λ ns. names_with_all ns texts) (sym (no_new names text h.0.number h.0.is))

-- what each leaf of a term is written as
leaves_back : (names : List (List ℕ)) (term : Term) → IsNames names → IsTerm names term → EachLeaf SaysBack (IsBack names) (plain term)
leaves_back names term sound is = EachLeaf-weaker IsTermInteger SaysBack (λ atom. IsSome (slice_get names atom)) (IsBack names) says_back (is_back names sound) (plain term) is

-- the text of a term is read as that term
pub TermText-term_text : (names : List (List ℕ)) (term : Term) → IsNames names → IsTerm names term → TermText names (term_text names term) term names
TermText-term_text names term sound is =
    let form : WrittenTerm = map_leaves signed_decimal (atom_text names) (plain term) in
    let back = leaves_back names term sound is in
    let leaves : HasLeafTexts form = EachLeaf-map (λ text. IsTrue (is_integer_text text)) (λ text. IsTrue (is_atom_text text)) signed_decimal (atom_text names) (plain term)
    (EachLeaf-weaker SaysBack (λ z. IsTrue (is_integer_text (signed_decimal z))) (IsBack names) (λ atom. IsTrue (is_atom_text (atom_text names atom))) (λ z k. k.form) (λ atom k. k.form) (plain term) back) in
    let numbers = EachOf-atoms (λ _. Unit {0}) (HasNumber names) form (EachLeaf-map (λ _. Unit {0}) (HasNumber names) signed_decimal (atom_text names) (plain term)
    (EachLeaf-weaker {Z = ℤ} SaysBack (λ _. Unit {0}) (IsBack names) (λ atom. HasNumber names (atom_text names atom)) (λ z k. tt) (λ atom k. record { number = atom; is = k.number }) (plain term) back)) in
    record {
      form = form;
      whole = refl;
      leaves = leaves;
      fits = EachLeaf-map (λ text. IsTermInteger (integer_of text)) (λ _. Unit {0}) signed_decimal (atom_text names) (plain term)
          (EachLeaf-weaker IsTermInteger (λ z. IsTermInteger (integer_of (signed_decimal z))) (λ atom. IsSome (slice_get names atom)) (λ _. Unit {0}) (λ z range. subst IsTermInteger (sym (says_back z range).value) range) (λ atom k. tt) (plain term) is);
      named = none_new names (atoms_of form) numbers;
      room = sound.room;
      value = sym (map_leaves-map integer_of (number_in names) signed_decimal (atom_text names) (plain term)
          ∙ map_leaves-same (λ z. integer_of (signed_decimal z)) (λ z. z) (λ atom. number_in names (atom_text names atom)) (λ atom. atom) (plain term)
          (EachLeaf-weaker SaysBack (λ z. integer_of (signed_decimal z) ≡ z) (IsBack names) (λ atom. number_in names (atom_text names atom) ≡ atom) (λ z k. k.value) (λ atom k. ap (λ o. unwrap_or o 0) k.number) (plain term) back)
          ∙ map_leaves-id (plain term));
    }
