-- The terms of a line: the text of each, and what they are by names that hold their atoms.
use Rattle.script_text.proofs.Common.{◌≡◌, ℕ, Bool, true, false, List, [], ◌∷◌, Some, option_map, cond, ◌||◌, ◌==◌, refl, sym, ap, ◌∙◌, subst, ◌<◌}
use Rattle.script_text.proofs.Common.{◌≤◌, decimal, Texts, Option, unwrap_or, arith, ◌++◌, is_some, and_parts, Decides-eqb}
use Rattle.script_text.proofs.Common.{signed_decimal, map, AllByRecursion, flat_map, list_all}
use Rattle.term_core.specs.Faults.{IsTextOf}
use Rattle.script_text.proofs.Texts.{is_atom_text, Extends, TermOf, RowOf, integer_leaf, atom_leaf, tuple_of, list_of, no_terms, term_then}
use Rattle.script_text.proofs.Texts.{PlainTerm, EachInRow, map_row, atoms_of, row_atoms, is_complex_text, tree_of, IsFormOf}
use Rattle.script_text.proofs.Texts.{WrittenTerm, written, is_integer_text, IsTermInteger, IntegersFit, integer_of, outside_of, is_term_text-form}
use Rattle.script_text.proofs.Texts.{form_is, tree_is, text_tested, some, some_is, map_some, passed, failed, tested_is, tested_at, atom_text}
use Rattle.script_text.proofs.Texts.{number_in, slice_get-number_of, number_value, is_number_text, decimal_again, test_le, none_by, HasNumber}
use Rattle.term_core.proofs.Shapes.{no_atom_text}
use Rattle.script_text.proofs.Forms.{is_term_form, is_row_form, is_snapshots_text, argument_reading, term_form, argument_in}
use Rattle.script_text.specs.KeptTerm.{complex, argument_words}
use Rattle.script_text.proofs.Modules.{is_version_text, is_arity_text, are_atoms, both_atoms, sound_form, text_of_form, term_atoms_are}
use Rattle.script_text.proofs.HeldNames.{number_is, number_in-after}
use Rattle.term_core.proofs.IntegerTexts.{signed_decimal-integer_of}
use Rattle.term_core.proofs.Ranges.{fits_of_none}
use Rattle.term_core.proofs.Text.Items.{IsItem}
use Rattle.mod_text.proofs.LineReaders.{arity_number, arity_few, version_number, version_bounds}
use Rattle.mod_text.proofs.Readers.{Reader, fitting}

-- ---- terms of a line

complex_again : (t : WrittenTerm) → is_term_form t ≡ true → is_complex_text (written t) ≡ true → option_map tree_of (text_tested is_complex_text (written t)) ≡ Some t
complex_again t h e = ap (option_map tree_of) (tested_at is_complex_text _ e) ∙ ap (λ u. some u) (form_is _ t (text_of_form t h)).tree

-- the text of a form is read as it
pub argument_again : (t : WrittenTerm) → is_term_form t ≡ true → argument_reading (written t) ≡ Some t
argument_again (integer_leaf text) h = failed _ _ _ (no_atom_text text h) ∙ passed (is_integer_text text) (some (integer_leaf text)) _ h
argument_again (atom_leaf text) h = passed (is_atom_text text) (some (atom_leaf text)) _ h
argument_again (tuple_of row) h = complex_again _ h (is_term_text-form _ (tuple_of row) (text_of_form _ h))
argument_again (list_of row) h = complex_again _ h (is_term_text-form _ (list_of row) (text_of_form _ h))

abbrev pub IsTermForm : WrittenTerm → Type 0
IsTermForm t = is_term_form t ≡ true

-- the text is that of this form
abbrev IsArgument : List ℕ → WrittenTerm → Type 0
IsArgument text t = IsItem written IsTermForm text t

complex_text : (text : List ℕ) → is_complex_text text ≡ true → IsFormOf text (tree_of text)
complex_text text h = tree_is text (and_parts _ _ h).1

module _ (text : List ℕ) (t : WrittenTerm) where
  complex_is : option_map tree_of (text_tested is_complex_text text) ≡ Some t → IsArgument text t
  complex_is e =
      let m = map_some _ _ t e in
      let is = tested_is is_complex_text text m.0 m.1 in
      let form = complex_text m.0 is.1 in
      subst (IsArgument text) m.2 (record { text_is = is.0 ∙ form.is_text.whole; fits = sound_form _ form.is_text.leaves })

  integer_is : (b : Bool) → is_integer_text text ≡ b → cond b (Some (integer_leaf text)) (option_map tree_of (text_tested is_complex_text text)) ≡ Some t → IsArgument text t
  integer_is true h e = subst (IsArgument text) (some_is _ t e) (record { text_is = refl; fits = h })
  integer_is false h e = complex_is e

  atom_is : (b : Bool) → is_atom_text text ≡ b → cond b (Some (atom_leaf text)) (cond (is_integer_text text) (Some (integer_leaf text)) (option_map tree_of (text_tested is_complex_text text))) ≡ Some t → IsArgument text t
  atom_is true h e = subst (IsArgument text) (some_is _ t e) (record { text_is = refl; fits = h })
  atom_is false h e = integer_is _ refl e

  -- what is read is a form with this text
  pub argument_is : argument_reading text ≡ Some t → IsArgument text t
  argument_is e = atom_is _ refl e

abbrev pub argument : Reader WrittenTerm
argument = fitting _ IsTermForm _ argument_is argument_again

-- ---- their words

-- what begins with a bracket is no leaf
abbrev IsNoLeaf : List ℕ → Type 0
IsNoLeaf text = (is_integer_text text ≡ false) × (is_atom_text text ≡ false)

bracket_is : (c : ℕ) (rest : List ℕ) (b : Bool) → (c == 123) ≡ b → (b || c == 91) ≡ true → IsNoLeaf (c ∷ rest)
bracket_is c rest true e h = subst (λ d. IsNoLeaf (d ∷ rest)) (sym ((Decides-eqb c 123).0 e)) (refl, refl)
bracket_is c rest false e h = subst (λ d. IsNoLeaf (d ∷ rest)) (sym ((Decides-eqb c 91).0 h)) (refl, refl)

no_leaf : (c : ℕ) (rest : List ℕ) → is_complex_text (c ∷ rest) ≡ true → IsNoLeaf (c ∷ rest)
no_leaf c rest h = bracket_is c rest _ refl (and_parts _ _ h).0

-- so its form is no leaf
kept_words : (text : List ℕ) (t : WrittenTerm) → is_complex_text text ≡ true → IsTextOf text t → argument_words t ≡ complex text
kept_words [] t h is = absurd cc
kept_words (c ∷ rest) (integer_leaf u) h is =
    let no : is_integer_text u ≡ false = ap is_integer_text (sym is.whole) ∙ (no_leaf c rest h).0 in
    let yes : is_integer_text u ≡ true = is.leaves in
    absurd cc
kept_words (c ∷ rest) (atom_leaf u) h is =
    let no : is_atom_text u ≡ false = ap is_atom_text (sym is.whole) ∙ (no_leaf c rest h).1 in
    let yes : is_atom_text u ≡ true = is.leaves in
    absurd cc
kept_words (c ∷ rest) (tuple_of row) h is = ap (λ (u : List ℕ). complex u) (sym is.whole)
kept_words (c ∷ rest) (list_of row) h is = ap (λ (u : List ℕ). complex u) (sym is.whole)

-- ---- what the texts of atoms, numbers and integers say is written as those texts

-- the text of a held atom's number is the atom's
pub atom_again : (names : Texts) (text : List ℕ) → HasNumber names text → atom_text names (number_in names text) ≡ text
atom_again names text h = ap (atom_text names) (number_is names text h) ∙ ap (λ (o : Option (List ℕ)). unwrap_or o []) (slice_get-number_of names text _ h.is)

module _ (text : List ℕ) where
  -- the text of a tuple or a list is kept as it is
  pub complex_words : is_complex_text text ≡ true → argument_words (tree_of text) ≡ complex text
  complex_words h = kept_words text _ h (complex_text text h).is_text

  -- so it is read where it is no leaf
  pub complex_read : is_atom_text text ≡ false → is_integer_text text ≡ false → is_complex_text text ≡ true → option_map argument_words (argument_reading text) ≡ Some (complex text)
  complex_read no_atom no_integer h =
      ap (option_map argument_words) (failed _ _ _ no_atom ∙ failed _ _ _ no_integer ∙ ap (option_map tree_of) (tested_at is_complex_text text h))
      ∙ ap (λ w. some w) (complex_words h)

  pub version_again : is_version_text text ≡ true → decimal (number_value text) ≡ text
  version_again h = decimal_again text (version_number text h) (omega (arith, (version_bounds text h).1))

  snapshots_number : is_snapshots_text text ≡ true → (is_number_text text ≡ true) × (1 ≤ number_value text) × (number_value text ≤ 16)
  snapshots_number h =
      let p = and_parts _ _ h in
      let q = and_parts _ _ p.1 in
      (p.0, test_le 1 _ q.0, test_le _ 16 q.1)

  -- a number of snapshots is from 1 to 16
  pub snapshots_bounds : is_snapshots_text text ≡ true → (0 < number_value text) × (number_value text ≤ 16)
  snapshots_bounds h = let p = snapshots_number h in let some = p.1 in (omega arith, p.2)

  pub arity_again : is_arity_text text ≡ true → decimal (number_value text) ≡ text
  arity_again h = decimal_again text (arity_number text h) (omega (arith, arity_few text h))

-- ---- the terms of a line by names that hold their atoms: they stay the same as the names grow, and are written as they were

-- ---- names that grow

pub each_first : {X : Type 0} (P : X → Type 0) (xs ys : List X) → AllByRecursion P (xs ++ ys) → AllByRecursion P xs × AllByRecursion P ys
each_first P [] ys h = (tt, h)
each_first P (x ∷ xs) ys h = let more = each_first P xs ys h.1 in ((h.0, more.0), more.1)

mutual
  -- a term whose atoms are held stays the same
  pub term_after : (names after : Texts) (t : TermOf (List ℕ) (List ℕ)) → Extends names after → AllByRecursion (HasNumber names) (atoms_of t) → argument_in after t ≡ argument_in names t
  term_after names after (integer_leaf text) e h = refl
  term_after names after (atom_leaf text) e h = ap (λ (n : ℕ). let u : PlainTerm = atom_leaf n in u) (number_in-after names after text e h.0)
  term_after names after (tuple_of row) e h = ap (λ r. tuple_of r) (row_after names after row e h)
  term_after names after (list_of row) e h = ap (λ r. list_of r) (row_after names after row e h)

  row_after : (names after : Texts) (row : RowOf (List ℕ) (List ℕ)) → Extends names after → AllByRecursion (HasNumber names) (row_atoms row) → map_row integer_of (number_in after) row ≡ map_row integer_of (number_in names) row
  row_after names after no_terms e h = refl
  row_after names after (term_then t row) e h =
      let p = each_first _ _ _ h in
      λ i. term_then ((term_after names after t e p.0) i) ((row_after names after row e p.1) i)

-- terms whose atoms are held stay the same
pub terms_after : (names after : Texts) (ts : List WrittenTerm) → Extends names after → AllByRecursion (HasNumber names) (flat_map atoms_of ts) → map (argument_in after) ts ≡ map (argument_in names) ts
terms_after names after [] e h = refl
terms_after names after (t ∷ ts) e h =
    let p = each_first _ _ _ h in
    λ i. (term_after names after t e p.0) i ∷ (terms_after names after ts e p.1) i

-- ---- their atoms

-- the atoms of forms are texts of atoms
pub terms_atoms_are : (ts : List WrittenTerm) → list_all is_term_form ts ≡ true → are_atoms (flat_map atoms_of ts) ≡ true
terms_atoms_are [] h = refl
terms_atoms_are (t ∷ ts) h =
    let p = and_parts _ _ h in
    both_atoms (atoms_of t) (flat_map atoms_of ts) (term_atoms_are t p.0) (terms_atoms_are ts p.1)

-- ---- written again

abbrev RowFits : RowOf (List ℕ) (List ℕ) → Type 0
RowFits row = EachInRow (λ text. IsTermInteger (integer_of text)) (λ _. Unit {0}) row

mutual
  -- a term with integers of 60 bits, whose atoms are held, is written as it was
  pub term_again : (names : Texts) (t : TermOf (List ℕ) (List ℕ)) → is_term_form t ≡ true → IntegersFit t → AllByRecursion (HasNumber names) (atoms_of t) → term_form names (argument_in names t) ≡ t
  term_again names (integer_leaf text) form fits held = ap (λ (t : List ℕ). let u : WrittenTerm = integer_leaf t in u) (sym (signed_decimal-integer_of text form fits))
  term_again names (atom_leaf text) form fits held = ap (λ (t : List ℕ). let u : WrittenTerm = atom_leaf t in u) (atom_again names text held.0)
  term_again names (tuple_of row) form fits held = ap (λ r. tuple_of r) (row_again names row form fits held)
  term_again names (list_of row) form fits held = ap (λ r. list_of r) (row_again names row form fits held)

  row_again : (names : Texts) (row : RowOf (List ℕ) (List ℕ)) → is_row_form row ≡ true → RowFits row → AllByRecursion (HasNumber names) (row_atoms row) → map_row signed_decimal (atom_text names) (map_row integer_of (number_in names) row) ≡ row
  row_again names no_terms form fits held = refl
  row_again names (term_then t row) form fits held =
      let f = and_parts _ _ form in
      let h = each_first _ _ _ held in
      λ i. term_then ((term_again names t f.0 fits.0 h.0) i) ((row_again names row f.1 fits.1 h.1) i)

-- a term without an integer that is too wide has integers of 60 bits
pub narrow_fits : (t : WrittenTerm) → is_some (outside_of t) ≡ false → IntegersFit t
narrow_fits t h = fits_of_none t (none_by _ h)
