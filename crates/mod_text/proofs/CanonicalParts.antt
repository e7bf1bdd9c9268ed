-- The parts of canonical lines, constants too, and what they are read back as.
use Rattle.std.proofs.Common.{◌≡◌, ℕ, ◌<◌, Bool, true, false, cond, ◌&&◌, ◌||◌, ◌==◌, nat_lt, List, [], ◌∷◌, length, ℤ, refl}
use Rattle.std.proofs.Common.{sym, ap, ◌∙◌, subst, arith, zero, suc, ◌+◌, ◌≤◌, ◌^◌, nat_le, ◌++◌, decimal, drop}
use Rattle.std.proofs.Common.{Option, Some, option_map, is_some, unwrap_or, position, bytes_eq, slice_get, add-one}
use Rattle.mod_text.proofs.Common.{list_all, list_any, IsTrue, IsSome, is_ascii_digit, is_ascii_lowercase}
use Rattle.mod_text.proofs.Common.{is_in_range, and_from, or_from, lt-ltb, le-leb, not_from_true, Texts}
use Rattle.mod_text.proofs.Common.{false_from_ne_true, nat_tests, decimal_injective}
use Rattle.mod_text.proofs.Common.{length-decimal-le, slice_get-get_or, unwrap_or-slice_get}
use Rattle.mod_text.proofs.Texts.{is_atom_text, is_name_byte, number_of, IsNames, plain, term_of, number_in}
use Rattle.mod_text.proofs.Texts.{IsTerm, atom_text, names_with_all, term_text, IsTermInteger}
use Rattle.mod_text.proofs.Texts.{is_integer_text, is_positive_text, integer_of}
use Rattle.mod_text.proofs.Texts.{plain-term_of, term_of-plain, name_bytes-decimal}
use Rattle.mod_text.proofs.Texts.{signed_decimal-says, texts_are_atoms, position-cons}
use Rattle.mod_text.proofs.Texts.{number_value, is_number_text, decimal-writes, same_bytes, bytes_are}
use Rattle.term_core.specs.PlainTerm.{PlainTerm, EachLeaf, integer_leaf, atom_leaf, tuple_of, list_of, map_leaves, term_words}
use Rattle.term_core.specs.TermForms.{is_bracketed, IsFormOf}
use Rattle.term_core.specs.Written.{WrittenTerm, HasLeafTexts}
use Rattle.term_core.proofs.LeafFacts.{EachLeaf-weaker, EachLeaf-both, EachLeaf-map, term_words-map}
use Rattle.term_core.proofs.Ranges.{fits_of_none}
use Rattle.term_core.proofs.TermForms.{form_is, printed_is}
use Rattle.term_core.proofs.Truths.{none_by}
use Rattle.mod_text.proofs.WrittenTerms.{leaf_texts, sound_form}
use Rattle.mod_text.specs.Canonical.{term_form}
use Rattle.mod_core.specs.Module.{IsConstant, IsOperand}
use Rattle.mod_core.specs.ModuleImage.{constants_len, operand_constants}
use Rattle.mod_text.proofs.Forms.{operand_form_words, OperandForm, register, constant, is_term_form, is_operand_form, LineForm}
use Rattle.mod_text.proofs.Forms.{is_line_form, is_arity_text, is_version_text, operand_in, atom_in}
use Rattle.mod_text.proofs.Forms.{label_text, written_operand, is_high, has_high_operand, is_wide_operand, is_long_operand, operand_atoms}
use Rattle.std.specs.Fmt.{signed_decimal}
use Rattle.mod_text.proofs.Types.{AtomId, Operand}
use Rattle.term_core.specs.declared.term.Term.{Term}
use Rattle.mod_core.specs.declared.code.Operand.TheVariants.{Reg, Const}
use Rattle.mod_core.specs.HeldNames.{IsConstantAmong, IsOperandAmong}

-- a line whose parts are of their forms
abbrev pub IsSound : LineForm → Type 0
IsSound line = is_line_form line ≡ true

-- ---- brackets

bracket_is_other : (c : ℕ) → (c == 123 || c == 91) ≡ true → (is_ascii_lowercase c ≡ false) × (is_in_range 49 57 c ≡ false) × ((c == 48) ≡ false) × ((c == 45) ≡ false) × ((c == 36) ≡ false)
bracket_is_other c h = (grind (arith, nat_tests), grind (arith, nat_tests), grind (arith, nat_tests), grind (arith, nat_tests), grind (arith, nat_tests))

-- no atom begins with a bracket
pub no_atom : (text : List ℕ) → is_bracketed text ≡ true → is_atom_text text ≡ false
no_atom [] h = absurd cc
no_atom (c ∷ rest) h = ap (λ t. t && (list_all is_name_byte rest && nat_lt (length rest) 32)) (bracket_is_other c h).0

-- and no integer
pub no_integer : (text : List ℕ) → is_bracketed text ≡ true → is_integer_text text ≡ false
no_integer [] h = absurd cc
no_integer (c ∷ rest) h =
    let tests = bracket_is_other c h in
    ap (λ t. cond t (length rest == 0) (cond (c == 45) (is_positive_text rest) (is_positive_text (c ∷ rest)))) tests.2
    ∙ ap (λ t. cond t (is_positive_text rest) (is_positive_text (c ∷ rest))) tests.3
    ∙ ap (λ t. t && list_all is_ascii_digit rest) tests.1

-- and no register
pub no_register : (c : ℕ) (rest : List ℕ) → is_bracketed (c ∷ rest) ≡ true → (c == 36) ≡ false
no_register c rest h = (bracket_is_other c h).4

-- ---- the constant

-- the constant that is written so
abbrev constant_in : Texts → WrittenTerm → Term
constant_in names form = term_of (map_leaves integer_of (number_in names) form)

module _ (names : Texts) (form : WrittenTerm) where
  constant_says : plain (constant_in names form) ≡ map_leaves integer_of (number_in names) form
  constant_says = plain-term_of _

  -- it has as many words
  constant_words : term_words (plain (constant_in names form)) ≡ term_words form
  constant_words = ap (λ (t : PlainTerm). term_words t) constant_says ∙ term_words-map _ _ form

  constant_fits : is_wide_operand (constant form) ≡ false → EachLeaf {A = ℕ} IsTermInteger (λ _. Unit {0}) (plain (constant_in names form))
  constant_fits narrow =
      subst (EachLeaf {A = ℕ} IsTermInteger (λ _. Unit {0})) (sym constant_says) (EachLeaf-map IsTermInteger (λ _. Unit {0}) _ _ form (fits_of_none form (none_by _ narrow)))

  -- its atoms are below a bound where each number is
  pub constant_held : is_term_form form ≡ true → (bound : ℕ) → ((t : List ℕ) → number_in names t < bound) → EachLeaf {Z = ℤ} (λ _. Unit {0}) (λ a. a < bound) (plain (constant_in names form))
  constant_held sound bound every =
      subst (EachLeaf {Z = ℤ} (λ _. Unit {0}) (λ a. a < bound)) (sym constant_says) (EachLeaf-map (λ _. Unit {0}) (λ a. a < bound) _ _ form
      (EachLeaf-weaker (λ t. IsTrue (is_integer_text t)) (λ _. Unit {0}) (λ t. IsTrue (is_atom_text t)) (λ t. number_in names t < bound) (λ t _. tt) (λ t _. every t) form (leaf_texts form sound)))

  -- a constant within its limits
  pub constant_is : is_term_form form ≡ true → is_wide_operand (constant form) ≡ false → is_long_operand (constant form) ≡ false → ((t : List ℕ) → number_in names t < 4096) → IsConstant (constant_in names form)
  constant_is sound narrow short small =
      let words = constant_words in
      let few : nat_lt 64 (term_words form) ≡ false = short in
      record {
        leaves = EachLeaf-weaker (λ z. IsTermInteger z × Unit {0}) IsTermInteger (λ a. Unit {0} × (a < 4096)) (λ a. a < 4096) (λ z p. p.0) (λ a p. p.1) (plain (constant_in names form))
            (EachLeaf-both IsTermInteger (λ _. Unit {0}) (λ _. Unit {0}) (λ a. a < 4096) (plain (constant_in names form)) (constant_fits narrow) (constant_held sound 4096 small));
        short = grind (arith, nat_tests);
      }

-- the words of an operand's constant
pub operand_constant_words : (names : Texts) (o : OperandForm) → is_operand_form o ≡ true → constants_len (operand_constants (operand_in names o)) ≡ operand_form_words o
operand_constant_words names (constant (tuple_of row)) h = omega (arith, constant_words names (tuple_of row))
operand_constant_words names (constant (list_of row)) h = omega (arith, constant_words names (list_of row))
operand_constant_words names (constant (integer_leaf text)) h = refl
operand_constant_words names (constant (atom_leaf text)) h = refl
operand_constant_words names (register digits) h = refl

-- ---- the parts of canonical lines, atoms, numbers, labels and operands, and what they are read back as

-- ---- lists

-- the place of the first that passes
pub position-at : {X : Type 0} (p : X → Bool) (xs : List X) (k : ℕ) (x : X) → slice_get xs k ≡ Some x → p x ≡ true → ((j : ℕ) (y : X) → j < k → slice_get xs j ≡ Some y → p y ≡ false) → position p xs ≡ Some k
position-at p [] k x here passes first = absurd cc
position-at p (y ∷ ys) zero x here passes first =
    let same : y ≡ x = cc in
    position-cons p y ys ∙ ap (λ b. cond b (Some 0) (option_map (λ i. i + 1) (position p ys))) (ap p same ∙ passes)
position-at p (y ∷ ys) (suc k) x here passes first =
    position-cons p y ys ∙ ap (λ b. cond b (Some 0) (option_map (λ i. i + 1) (position p ys))) (first 0 y (omega arith) refl)
    ∙ ap (option_map (λ i. i + 1)) (position-at p ys k x here passes (λ j z less there. first (suc j) z (omega arith) there)) ∙ ap (λ n. Some n) (add-one k)

-- none passes
pub list_any-none : {X : Type 0} (p : X → Bool) (xs : List X) → ((j : ℕ) (y : X) → slice_get xs j ≡ Some y → p y ≡ false) → list_any p xs ≡ false
list_any-none p [] each = refl
list_any-none p (x ∷ xs) each = or_from (p x) (list_any p xs) (each 0 x refl) (list_any-none p xs (λ j y there. each (suc j) y there))

-- ---- atoms

-- the text of an atom that a table of names holds
pub record IsHeldAtom (names : Texts) (text : List ℕ) (atom : ℕ) : Type 0 where
  pub form : is_atom_text text ≡ true
  pub stands : slice_get names atom ≡ Some text
  pub number : number_of names text ≡ Some atom

pub held_atom : (names : Texts) (atom : ℕ) → IsNames names → atom < length names → IsHeldAtom names (atom_text names atom) atom
held_atom names atom sound held =
    let text = atom_text names atom in
    let stands : slice_get names atom ≡ Some text = slice_get-get_or names atom [] held ∙ ap (λ t. Some t) (sym (unwrap_or-slice_get names atom [])) in
    record {
      form = texts_are_atoms names text atom sound stands;
      stands = stands;
      number = position-at (bytes_eq text) names atom text stands (same_bytes text) (λ j y less there. false_from_ne_true (bytes_eq text y) (λ e. sound.apart j atom less held (there ∙ ap (λ t. Some t) (sym (bytes_are text y e)) ∙ sym stands)));
    }

-- its text is read as that atom
pub atom_back : (names : Texts) (atom : AtomId) → IsNames names → atom.0 < length names → atom_in names (atom_text names atom.0) ≡ atom
atom_back names atom sound held = ap (λ (o : Option ℕ). record { 0 = unwrap_or o 0 }) (held_atom names _ sound held).number

-- and adds no name
pub no_new_name : (names : Texts) (text : List ℕ) (atom : ℕ) → IsHeldAtom names text atom → names_with_all names (text ∷ []) ≡ names
no_new_name names text atom held = ap (λ (o : Option ℕ). cond (is_some o) names (names ++ text ∷ [])) held.number

pub held_apart : (names : Texts) (a b : ℕ) → IsNames names → a < length names → b < length names → atom_text names a ≡ atom_text names b → a ≡ b
held_apart names a b sound first second same =
    let numbers : ◌≡◌ {A = Option ℕ} (Some a) (Some b) = sym (held_atom names a sound first).number ∙ ap (number_of names) same ∙ (held_atom names b sound second).number in
    cc

-- ---- numbers

pub arity_writes : (arity : ℕ) → arity ≤ 15 → is_arity_text (decimal arity) ≡ true
arity_writes arity few =
    let w = decimal-writes arity (omega arith) in
    and_from _ _ w.form (ap (λ n. nat_le n 15) w.value ∙ le-leb arity 15 few)

pub version_writes : (version : ℕ) → 1 ≤ version → version ≤ 999999 → is_version_text (decimal version) ≡ true
version_writes version least greatest =
    let w = decimal-writes _ (omega arith) in
    and_from _ _ w.form (and_from _ _ (ap (nat_le 1) w.value ∙ le-leb 1 _ least) (ap (λ n. nat_le n 999999) w.value ∙ le-leb _ 999999 greatest))

-- what is written of a register
pub record WritesRegister (number : ℕ) : Type 0 where
  pub form : is_number_text (decimal number) ≡ true
  pub low : is_high (decimal number) ≡ false
  pub value : number_value (decimal number) ≡ number

pub register_writes : (number : ℕ) → number < 16 → WritesRegister number
register_writes number low =
    let w = decimal-writes _ (omega arith) in
    record { form = w.form; low = not_from_true _ (ap (λ n. nat_lt n 16) w.value ∙ lt-ltb _ 16 low); value = w.value }

-- ---- labels

-- the label of a number is an atom's text
pub label_form : (number : ℕ) → number < 2 ^ 64 → is_atom_text (label_text number) ≡ true
label_form number small = and_from _ _ (name_bytes-decimal _ small) (lt-ltb _ 32 (omega (arith, length-decimal-le 20 _ (omega arith) (omega arith) small)))

-- labels of two numbers differ
pub labels_differ : (a b : ℕ) → a < 2 ^ 64 → b < 2 ^ 64 → (a ≡ b → ⊥) → bytes_eq (label_text a) (label_text b) ≡ false
labels_differ a b first second apart =
    false_from_ne_true (bytes_eq (label_text a) (label_text b)) (λ e. apart (decimal_injective a b first second (ap (drop 1) (bytes_are (label_text a) (label_text b) e))))

-- ---- operands

-- an operand as it is written has its form, passes no limit, adds no name, and is read as that operand
pub record IsOperandBack (names : Texts) (form : OperandForm) (o : Operand) : Type 0 where
  pub sound : is_operand_form form ≡ true
  pub low : has_high_operand form ≡ false
  pub narrow : is_wide_operand form ≡ false
  pub short : is_long_operand form ≡ false
  pub known : names_with_all names (operand_atoms form) ≡ names
  pub value : operand_in names form ≡ o

-- a constant as it is written
constant_back : (names : Texts) (term : Term) → IsNames names → IsConstant term → IsConstantAmong (length names) term → IsOperandBack names (constant (term_form names (plain term))) (Const term)
constant_back names term sound is held =
    let form = term_form names (plain term) in
    let leaves = EachLeaf-both IsTermInteger (λ _. Unit {0}) (λ a. a < 4096) (λ a. a < length names) _ is.leaves held in
    let term_is : IsTerm names term =
    EachLeaf-weaker (λ z. IsTermInteger z × Unit {0}) IsTermInteger (λ a. (a < 4096) × (a < length names)) (λ a. IsSome _) (λ z p. p.0) (λ a p. ap is_some (slice_get-get_or names a [] p.1)) _ leaves in
    let texts : HasLeafTexts form = EachLeaf-map (λ t. IsTrue (is_integer_text t)) (λ t. IsTrue (is_atom_text t)) _ _ _
    (EachLeaf-weaker (λ z. IsTermInteger z × Unit {0}) (λ z. IsTrue (is_integer_text (signed_decimal z))) (λ a. (a < 4096) × (a < length names)) (λ a. IsTrue (is_atom_text (atom_text names a))) (λ z p. (signed_decimal-says z p.0).form) (λ a p. (held_atom names a sound p.1).form) _ leaves) in
    let shown : IsFormOf (term_text names term) form = form_is _ form (record { whole = refl; leaves = texts }) in
    let p = printed_is names term sound term_is in
    let few : term_words (plain term) ≤ 64 = is.short in
    let words : term_words form ≡ term_words (plain term) = sym shown.words ∙ p.words in
    record {
      sound = sound_form form texts;
      low = refl;
      narrow = sym shown.wide ∙ p.narrow;
      short = grind (arith, nat_tests);
      known = ap (names_with_all names) (sym shown.atoms) ∙ p.kept;
      value = ap (λ t. Const (term_of t)) (sym (shown.value names) ∙ p.value) ∙ ap (λ t. Const t) (term_of-plain term);
    }

pub operand_back : (names : Texts) (o : Operand) → IsNames names → IsOperand o → IsOperandAmong (length names) o → IsOperandBack names (written_operand names o) o
operand_back names (Reg number) sound is held =
    let w = register_writes _ is in
    record { sound = w.form; low = w.low; narrow = refl; short = refl; known = refl; value = ap (λ n. Reg n) w.value }
operand_back names (Const term) sound is held = constant_back names term sound is held
