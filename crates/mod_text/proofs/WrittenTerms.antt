-- Written terms: what has the texts of its leaves, and what is kept of the text of an operand.
use Rattle.mod_text.proofs.Common.{◌≡◌, ℕ, Bool, true, false, not, ◌||◌, List, [], is_some, cond, refl, sym, ap, ◌∙◌, subst, and_parts, and_from}
use Rattle.mod_text.proofs.Common.{false_from_ne_true, nat_lt, Option, Some, None, Texts}
use Rattle.mod_text.proofs.Texts.{term_of, is_integer_text, is_term_text, is_bracketed, is_term_byte, lacks, lacks-all, passed, failed}
use Rattle.mod_text.proofs.Forms.{OperandForm, register, constant, is_operand_form, is_sound_operand, has_high_operand, is_wide_operand, is_long_operand, operand_atoms, operand_form_words, operand_in}
use Rattle.mod_text.specs.LineReading.{term_read}
use Rattle.mod_text.specs.LineViews.{integer_form, complex_form}
use Rattle.mod_text.specs.ModuleLine.{is_term_form, is_row_form}
use Rattle.term_core.specs.Faults.{IsTextOf}
use Rattle.term_core.specs.PlainTerm.{TermOf, RowOf, integer_leaf, atom_leaf, tuple_of, list_of, no_terms, term_then, term_words, PlainTerm}
use Rattle.term_core.specs.TermForms.{tree_of, IsFormOf, is_in_brackets, is_wide_text, text_words, term_atoms, term_in}
use Rattle.term_core.specs.Written.{WrittenTerm, written, HasLeafTexts, IsTermInteger, is_term_integer, integer_of}
use Rattle.term_core.specs.declared.term.Term.TheVariants.{Int}
use Rattle.mod_core.specs.declared.code.Operand.TheVariants.{Const}
use Rattle.term_core.proofs.Ranges.{fits_of_none}
use Rattle.term_core.proofs.Truths.{none_by}
use Rattle.term_core.proofs.TermBytes.{term_bytes-written}
use Rattle.term_core.proofs.TermForms.{form_is, tree_is, is_term_text-form, is_bracketed-form}
use Rattle.term_core.proofs.WrittenTokens.{RowHasLeafTexts}

-- ---- forms

-- each leaf of a form has its text
mutual
  pub leaf_texts : (t : TermOf (List ℕ) (List ℕ)) → is_term_form t ≡ true → HasLeafTexts t
  leaf_texts (integer_leaf text) h = h
  leaf_texts (atom_leaf text) h = h
  leaf_texts (tuple_of row) h = row_texts row h
  leaf_texts (list_of row) h = row_texts row h

  row_texts : (row : RowOf (List ℕ) (List ℕ)) → is_row_form row ≡ true → RowHasLeafTexts row
  row_texts no_terms h = tt
  row_texts (term_then t row) h = let p = and_parts _ _ h in (leaf_texts t p.0, row_texts row p.1)

-- and what has them is a form
mutual
  pub sound_form : (t : TermOf (List ℕ) (List ℕ)) → HasLeafTexts t → is_term_form t ≡ true
  sound_form (integer_leaf text) h = h
  sound_form (atom_leaf text) h = h
  sound_form (tuple_of row) h = row_is row h
  sound_form (list_of row) h = row_is row h

  row_is : (row : RowOf (List ℕ) (List ℕ)) → RowHasLeafTexts row → is_row_form row ≡ true
  row_is no_terms h = refl
  row_is (term_then t row) h = and_from _ _ (sound_form t h.0) (row_is row h.1)

-- the text of a form
pub text_of_form : (t : WrittenTerm) → is_term_form t ≡ true → IsTextOf (written t) t
text_of_form t h = record { whole = refl; leaves = leaf_texts t h }

-- is a term's
pub written_is_text : (t : WrittenTerm) → is_term_form t ≡ true → is_term_text (written t) ≡ true
written_is_text t h = is_term_text-form _ t (text_of_form t h)

-- what is no term's byte stands in no form's text
pub term_lacks : (byte : ℕ) (t : WrittenTerm) → is_term_byte byte ≡ false → is_term_form t ≡ true → lacks byte (written t) ≡ true
term_lacks byte t apart h = lacks-all _ byte _ apart (term_bytes-written t (leaf_texts t h))

-- a form is no leaf that was kept of another text
pub sound_term : (t : WrittenTerm) → is_term_form t ≡ true → is_sound_operand (constant t) ≡ true
sound_term (integer_leaf text) h = h
sound_term t h = refl

-- ---- what is kept of a text

module _ (text : List ℕ) where
  -- of a term's text, the term
  read_as : is_term_text text ≡ true → term_read text ≡ tree_of text
  unfolding term_read
  read_as h = passed (is_term_text text) (tree_of text) (integer_leaf text) h

  -- of any other, the text
  left_as : is_term_text text ≡ false → term_read text ≡ integer_leaf text
  unfolding term_read
  left_as h = failed _ _ _ h

  -- which is no integer's
  no_integer_left : is_term_text text ≡ false → is_integer_text text ≡ false
  no_integer_left h = false_from_ne_true _ (λ is. let yes = is_term_text-form text (integer_leaf text) (record { whole = refl; leaves = is }) in absurd (let no = sym h ∙ yes in cc))

  read_is : is_term_text text ≡ true → IsFormOf text (term_read text)
  read_is h = subst (IsFormOf text) (sym (read_as h)) (tree_is text h)

  -- the text stays as it is
  text_by : (t : Bool) → is_term_text text ≡ t → text ≡ written (term_read text)
  text_by true h = (read_is h).is_text.whole
  text_by false h = sym (ap written (left_as h))

  pub text_kept : text ≡ written (term_read text)
  text_kept = text_by _ refl

  sound_by : (t : Bool) → is_term_text text ≡ t → is_sound_operand (constant (term_read text)) ≡ t
  sound_by true h = sound_term (term_read text) (sound_form _ (read_is h).is_text.leaves)
  sound_by false h = ap (λ t. is_sound_operand (constant t)) (left_as h) ∙ no_integer_left h

  -- whether it is a term's
  pub sound_is : is_term_text text ≡ is_sound_operand (constant (term_read text))
  sound_is = sym (sound_by _ refl)

  form_by : (t : Bool) → is_term_text text ≡ t → is_term_form (term_read text) ≡ true → t ≡ true
  form_by true h form = refl
  form_by false h form = sym (no_integer_left h) ∙ (sym (ap is_term_form (left_as h)) ∙ form)

  -- what is a form was a term's text
  pub form_kept : is_term_form (term_read text) ≡ true → IsFormOf text (term_read text)
  form_kept form = read_is (form_by (is_term_text text) refl form)

  -- a term's text is kept as a form
  pub kept_form : is_term_text text ≡ true → is_term_form (term_read text) ≡ true
  kept_form h = sound_form _ (read_is h).is_text.leaves

-- the text of a form is kept as that form
pub read_again : (t : WrittenTerm) → is_term_form t ≡ true → term_read (written t) ≡ t
read_again t h = read_as _ (written_is_text t h) ∙ (form_is _ t (text_of_form t h)).tree

-- ---- the form of an integer that is kept by its text

module _ (text : List ℕ) where
  pub integer_is : is_integer_text text ≡ true → integer_form text ≡ constant (integer_leaf text)
  unfolding integer_form
  integer_is h = passed (is_integer_text text) (constant (integer_leaf text)) (register []) h

  no_integer_is : is_integer_text text ≡ false → integer_form text ≡ register []
  unfolding integer_form
  no_integer_is h = failed _ _ _ h

  integer_by : (t : Bool) → is_integer_text text ≡ t → is_operand_form (integer_form text) ≡ true → t ≡ true
  integer_by true h form = refl
  integer_by false h form = absurd (let no : is_operand_form (register []) ≡ true = sym (ap is_operand_form (no_integer_is h)) ∙ form in cc)

  -- what is an operand is an integer's text
  pub integer_if : is_operand_form (integer_form text) ≡ true → is_integer_text text ≡ true
  integer_if form = integer_by _ refl form

  either_by : (P : OperandForm → Type 0) (t : Bool) → is_integer_text text ≡ t → (is_integer_text text ≡ true → P (constant (integer_leaf text))) → P (register []) → P (integer_form text)
  either_by P true h one other = subst P (sym (integer_is h)) (one h)
  either_by P false h one other = subst P (sym (no_integer_is h)) other

  -- it asks for no look
  pub sound_integer : is_sound_operand (integer_form text) ≡ true
  sound_integer = either_by (λ o. is_sound_operand o ≡ true) _ refl (λ h. h) refl

  -- it is no register over 15
  pub low_integer : has_high_operand (integer_form text) ≡ false
  low_integer = either_by (λ o. has_high_operand o ≡ false) _ refl (λ h. refl) refl

  -- it is short
  pub short_integer : is_long_operand (integer_form text) ≡ false
  short_integer = either_by (λ o. is_long_operand o ≡ false) _ refl (λ h. refl) refl

  -- it names no atom
  pub integer_atoms : operand_atoms (integer_form text) ≡ []
  integer_atoms = either_by (λ o. operand_atoms o ≡ []) _ refl (λ h. refl) refl

  -- it has no image behind the code
  pub integer_words : operand_form_words (integer_form text) ≡ 0
  integer_words = either_by (λ o. operand_form_words o ≡ 0) _ refl (λ h. refl) refl

  module _ (h : is_operand_form (integer_form text) ≡ true) where
    -- it is wide where its integer is no term's
    pub wide_integer : not (is_term_integer (integer_of text)) ≡ is_wide_operand (integer_form text)
    wide_integer = wide_by _ ∙ sym (ap is_wide_operand (integer_is (integer_if h)))
      where
        wide_by : (b : Bool) → not b ≡ is_some (cond {A = Option ℕ} b None (Some 0))
        wide_by true = refl
        wide_by false = refl

    -- else it is a term's
    pub narrow_integer : is_wide_operand (integer_form text) ≡ false → IsTermInteger (integer_of text)
    narrow_integer narrow = fits_of_none (integer_leaf text) (none_by _ (sym (ap is_wide_operand (integer_is (integer_if h))) ∙ narrow))

    pub integer_says : (names : Texts) → operand_in names (integer_form text) ≡ Const (Int (integer_of text))
    integer_says names = ap (operand_in names) (integer_is (integer_if h))

-- ---- the form of a tuple or a list that is kept by its text

-- it is the written term with that text
pub record IsComplex (text : List ℕ) : Type 0 where
  pub is : complex_form text ≡ constant (term_read text)
  pub form : IsFormOf text (term_read text)
  pub brackets : is_in_brackets (term_read text) ≡ true

-- as many words as its image
words_in : (t : WrittenTerm) → is_in_brackets t ≡ true → operand_form_words (constant t) ≡ term_words t
words_in (integer_leaf text) h = absurd cc
words_in (atom_leaf text) h = absurd cc
words_in (tuple_of row) h = refl
words_in (list_of row) h = refl

module _ (text : List ℕ) where
  pub complex_is : is_bracketed text ≡ true → complex_form text ≡ constant (term_read text)
  unfolding complex_form
  complex_is h = ap (λ b. cond (b || not (is_term_text text)) (constant (term_read text)) (register [])) h

  other_is : is_bracketed text ≡ false → (t : Bool) → is_term_text text ≡ t → complex_form text ≡ cond (not t) (constant (term_read text)) (register [])
  unfolding complex_form
  other_is h t e = ap (λ b. cond (b || not (is_term_text text)) (constant (term_read text)) (register [])) h ∙ ap (λ t. cond (not t) (constant (term_read text)) (register [])) e

  complex_by : (b t : Bool) → is_bracketed text ≡ b → is_term_text text ≡ t → is_operand_form (complex_form text) ≡ true → IsComplex text
  complex_by true t hb ht h =
      let form = form_kept text (sym (ap is_operand_form (complex_is hb)) ∙ h) in
      record { is = complex_is hb; form = form; brackets = sym (is_bracketed-form text _ form.is_text) ∙ hb }
  complex_by false true hb ht h = absurd (let no : is_operand_form (register []) ≡ true = sym (ap is_operand_form (other_is hb true ht)) ∙ h in cc)
  complex_by false false hb ht h = absurd (let yes = form_by text false ht (sym (ap is_operand_form (other_is hb false ht)) ∙ h) in cc)

  -- what is an operand is the text of a tuple or a list
  pub complex_if : is_operand_form (complex_form text) ≡ true → IsComplex text
  complex_if h = complex_by _ _ refl refl h

  sound_complex_by : (b t : Bool) → is_bracketed text ≡ b → is_term_text text ≡ t → t ≡ is_sound_operand (complex_form text)
  sound_complex_by true t hb ht = sym ht ∙ sound_is text ∙ sym (ap is_sound_operand (complex_is hb))
  sound_complex_by false true hb ht = sym (ap is_sound_operand (other_is hb true ht))
  sound_complex_by false false hb ht = sym ht ∙ sound_is text ∙ sym (ap is_sound_operand (other_is hb false ht))

  -- whether it is a term's
  pub sound_complex : is_term_text text ≡ is_sound_operand (complex_form text)
  sound_complex = sound_complex_by _ _ refl refl

  low_complex_by : (b t : Bool) → is_bracketed text ≡ b → is_term_text text ≡ t → has_high_operand (complex_form text) ≡ false
  low_complex_by true t hb ht = ap has_high_operand (complex_is hb)
  low_complex_by false true hb ht = ap has_high_operand (other_is hb true ht)
  low_complex_by false false hb ht = ap has_high_operand (other_is hb false ht)

  -- it is no register over 15
  pub low_complex : has_high_operand (complex_form text) ≡ false
  low_complex = low_complex_by _ _ refl refl

  module _ (h : is_operand_form (complex_form text) ≡ true) where
    pub wide_is : is_wide_text text ≡ is_wide_operand (complex_form text)
    wide_is = let c = complex_if h in c.form.wide ∙ sym (ap is_wide_operand c.is)

    pub long_is : nat_lt 64 (text_words text) ≡ is_long_operand (complex_form text)
    long_is = let c = complex_if h in ap (nat_lt 64) c.form.words ∙ sym (ap is_long_operand c.is)

    pub atoms_are : term_atoms text ≡ operand_atoms (complex_form text)
    atoms_are = let c = complex_if h in c.form.atoms ∙ sym (ap operand_atoms c.is)

    pub words_are : text_words text ≡ operand_form_words (complex_form text)
    words_are = let c = complex_if h in c.form.words ∙ sym (words_in _ c.brackets) ∙ sym (ap operand_form_words c.is)

    pub complex_narrow : is_wide_operand (complex_form text) ≡ false → is_wide_text text ≡ false
    complex_narrow narrow = wide_is ∙ narrow

    pub complex_text : is_term_text text ≡ true
    complex_text = is_term_text-form text _ (complex_if h).form.is_text

    pub complex_says : (names : Texts) → operand_in names (complex_form text) ≡ Const (term_of (term_in names text))
    complex_says names = let c = complex_if h in ap (operand_in names) c.is ∙ ap (λ (t : PlainTerm). Const (term_of t)) (sym (c.form.value names))
