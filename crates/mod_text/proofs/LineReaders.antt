-- The readers of the words of a line.
use Rattle.mod_text.proofs.Common.{◌≡◌, ℕ, Bool, true, false, ◌&&◌, ◌==◌, ◌≤◌, nat_lt, List, [], ◌∷◌, length, cond}
use Rattle.mod_text.proofs.Common.{Option, Some, option_map, refl, sym, ap, ◌∙◌, subst, arith, list_all}
use Rattle.mod_text.proofs.Common.{is_ascii_digit, is_ascii_lowercase, is_in_range, and_parts, and_from, nat_tests, Decides-eqb}
use Rattle.mod_text.proofs.Texts.{is_atom_text, is_name_byte, is_bracketed}
use Rattle.mod_text.proofs.Texts.{is_integer_text, is_positive_text, is_term_byte, shape_of, Zero, Minus}
use Rattle.mod_text.proofs.Texts.{Plain, is_number_text, number_value, text_tested, some, some_is, map_some}
use Rattle.mod_text.proofs.Texts.{passed, failed, tested_is, tested_at, atom_lacks, number_lacks, lacks}
use Rattle.mod_text.proofs.Texts.{lacks-append, lacks-cons, IsItem}
use Rattle.mod_text.proofs.Forms.{OperandForm, register, constant, is_term_form, parted_by, operand_written}
use Rattle.mod_text.proofs.Forms.{function_written, is_version_text, is_arity_text, is_operand_form}
use Rattle.mod_text.proofs.Forms.{is_function_form, constant_reading, operand_reading, is_sound_operand}
use Rattle.mod_text.proofs.Forms.{InstrForm, move, add, sub, eq, less, ret, pget_or, elem, print, is_instr_form, operands_of, each_operand}
use Rattle.term_core.proofs.Truths.{test_le}
use Rattle.mod_text.proofs.CanonicalParts.{no_atom, no_integer, no_register}
use Rattle.mod_text.proofs.WrittenTerms.{term_lacks, text_kept, sound_is, kept_form, read_again}
use Rattle.mod_text.specs.LineReading.{term_read}
use Rattle.term_core.specs.PlainTerm.{integer_leaf, atom_leaf, tuple_of, list_of}
use Rattle.term_core.specs.Written.{WrittenTerm, written}
use Rattle.mod_text.proofs.Readers.{Reader, passing, pair, begun}

-- ---- the bytes of words

-- a byte that parts words or lines
pub record IsApart (byte : ℕ) : Type 0 where
  pub name : is_name_byte byte ≡ false
  pub digit : is_ascii_digit byte ≡ false
  pub zero_digit : (48 == byte) ≡ false
  pub minus : (45 == byte) ≡ false
  pub dollar : (36 == byte) ≡ false

pub space_apart : IsApart 32
space_apart = record { name = refl; digit = refl; zero_digit = refl; minus = refl; dollar = refl }

pub line_feed_apart : IsApart 10
line_feed_apart = record { name = refl; digit = refl; zero_digit = refl; minus = refl; dollar = refl }

-- a byte that stands in no term either
pub record IsOutside (byte : ℕ) : Type 0 where
  pub apart : IsApart byte
  pub term : is_term_byte byte ≡ false

pub space_outside : IsOutside 32
space_outside = record { apart = space_apart; term = refl }

pub line_feed_outside : IsOutside 10
line_feed_outside = record { apart = line_feed_apart; term = refl }

pub operand_lacks : (byte : ℕ) (o : OperandForm) → IsOutside byte → is_operand_form o ≡ true → lacks byte (operand_written o) ≡ true
operand_lacks byte (register digits) out h = lacks-cons byte 36 _ out.apart.dollar (number_lacks byte _ out.apart.digit h)
operand_lacks byte (constant term) out h = term_lacks byte term out.term h

pub arity_number : (text : List ℕ) → is_arity_text text ≡ true → is_number_text text ≡ true
arity_number text h = (and_parts _ _ h).0

pub arity_few : (text : List ℕ) → is_arity_text text ≡ true → number_value text ≤ 15
arity_few text h = test_le _ 15 (and_parts _ _ h).1

pub version_number : (text : List ℕ) → is_version_text text ≡ true → is_number_text text ≡ true
version_number text h = (and_parts _ _ h).0

pub version_bounds : (text : List ℕ) → is_version_text text ≡ true → (1 ≤ number_value text) × (number_value text ≤ 999999)
version_bounds text h =
    let p = and_parts _ _ (and_parts _ _ h).1 in
    (test_le 1 _ p.0, test_le _ 999999 p.1)

-- ---- operands

-- an operand whose tuple or list was not looked into
abbrev pub IsSplit : OperandForm → Type 0
IsSplit o = is_sound_operand o ≡ true → is_operand_form o ≡ true

abbrev IsOperand : List ℕ → OperandForm → Type 0
IsOperand text o = IsItem operand_written IsSplit text o

module _ (text : List ℕ) (o : OperandForm) where
  complex_is : option_map (λ t. constant (term_read t)) (text_tested is_bracketed text) ≡ Some o → IsOperand text o
  complex_is e =
      let m = map_some (λ t. constant (term_read t)) (text_tested is_bracketed text) o e in
      let t = tested_is is_bracketed text m.0 m.1 in
      subst (IsOperand text) m.2 (record { text_is = t.0 ∙ text_kept m.0; fits = λ sound. kept_form m.0 (sound_is m.0 ∙ sound) })

  number_by : (t : Bool) → is_integer_text text ≡ t → cond t (Some (constant (integer_leaf text))) (option_map (λ t. constant (term_read t)) (text_tested is_bracketed text)) ≡ Some o → IsOperand text o
  number_by true is e = subst (IsOperand text) (some_is _ o e) (record { text_is = refl; fits = λ _. is })
  number_by false is e = complex_is e

  constant_by : (t : Bool) → is_atom_text text ≡ t → cond t (Some (constant (atom_leaf text))) (cond (is_integer_text text) (Some (constant (integer_leaf text))) (option_map (λ t. constant (term_read t)) (text_tested is_bracketed text))) ≡ Some o → IsOperand text o
  constant_by true is e = subst (IsOperand text) (some_is _ o e) (record { text_is = refl; fits = λ _. is })
  constant_by false is e = number_by _ refl e

operand_by : (c : ℕ) (rest : List ℕ) (o : OperandForm) (t : Bool) → (c == 36) ≡ t → cond t (option_map (λ digits. register digits) (text_tested is_number_text rest)) (constant_reading (c ∷ rest)) ≡ Some o → IsOperand (c ∷ rest) o
operand_by c rest o true is e =
    let m = map_some (λ digits. register digits) _ o e in
    let t = tested_is is_number_text rest m.0 m.1 in
    subst (IsOperand (c ∷ rest)) m.2 (record { text_is = ap (λ (k : ℕ). k ∷ rest) ((Decides-eqb c 36).0 is) ∙ ap (λ (k : List ℕ). 36 ∷ k) t.0; fits = λ _. t.1 })
operand_by c rest o false is e = constant_by _ o _ refl e

pub operand_is : (text : List ℕ) (o : OperandForm) → operand_reading text ≡ Some o → IsOperand text o
operand_is [] o e = absurd cc
operand_is (c ∷ rest) o e = operand_by c rest o _ refl e

-- what is read of what is no atom and no register
abbrev number_or_term : List ℕ → Option OperandForm
number_or_term text = cond (is_integer_text text) (Some (constant (integer_leaf text))) (option_map (λ t. constant (term_read t)) (text_tested is_bracketed text))

-- an atom is no register, and no integer
atom_again : (text : List ℕ) → is_atom_text text ≡ true → operand_reading text ≡ Some (constant (atom_leaf text))
atom_again [] h = absurd cc
atom_again (c ∷ rest) h =
    let lower : is_ascii_lowercase c ≡ true = (and_parts _ _ h).0 in
    failed _ (option_map (λ digits. register digits) (text_tested is_number_text rest)) _ (grind (arith, nat_tests))
    ∙ passed (is_atom_text (c ∷ rest)) (some (constant (atom_leaf (c ∷ rest)))) (number_or_term (c ∷ rest)) h

no_letter : (c : ℕ) (rest : List ℕ) → is_ascii_lowercase c ≡ false → is_atom_text (c ∷ rest) ≡ false
no_letter c rest h = ap (λ t. t && (list_all is_name_byte rest && nat_lt (length rest) 32)) h

-- where the first byte is no letter and no `$`
integer_at : (c : ℕ) (rest : List ℕ) → is_ascii_lowercase c ≡ false → (c == 36) ≡ false → is_integer_text (c ∷ rest) ≡ true → operand_reading (c ∷ rest) ≡ Some (constant (integer_leaf (c ∷ rest)))
integer_at c rest lower other h =
    failed _ (option_map (λ digits. register digits) (text_tested is_number_text rest)) _ other ∙ failed _ _ _ (no_letter c rest lower)
    ∙ passed (is_integer_text (c ∷ rest)) (some (constant (integer_leaf (c ∷ rest)))) (option_map (λ t. constant (term_read t)) (text_tested is_bracketed (c ∷ rest))) h

digit_tests : (c : ℕ) → is_in_range 49 57 c ≡ true → (is_ascii_lowercase c ≡ false) × ((c == 36) ≡ false)
digit_tests c h = (grind (arith, nat_tests), grind (arith, nat_tests))

positive_again : (text : List ℕ) → is_positive_text text ≡ true → is_integer_text text ≡ true → operand_reading text ≡ Some (constant (integer_leaf text))
positive_again [] p h = absurd cc
positive_again (c ∷ rest) p h = let tests = digit_tests c (and_parts _ _ p).0 in integer_at c rest tests.0 tests.1 h

integer_again : (text : List ℕ) → is_integer_text text ≡ true → operand_reading text ≡ Some (constant (integer_leaf text))
integer_again text h = elim (shape_of text h) [
  | Zero e ↦ let P : List ℕ → Type 0 = λ t. is_integer_text t ≡ true → operand_reading t ≡ Some (constant (integer_leaf t)) in subst P (sym e) (integer_at 48 [] refl refl) h
  | Minus digits e p ↦ let P : List ℕ → Type 0 = λ t. is_integer_text t ≡ true → operand_reading t ≡ Some (constant (integer_leaf t)) in subst P (sym e) (integer_at 45 digits refl refl) h
  | Plain p ↦ positive_again text p h
]

-- nor is what begins with a bracket any of these
bracketed_again : (text : List ℕ) → is_bracketed text ≡ true → operand_reading text ≡ Some (constant (term_read text))
bracketed_again [] h = absurd cc
bracketed_again (c ∷ rest) h =
    let text = c ∷ rest in
    failed _ (option_map (λ digits. register digits) (text_tested is_number_text rest)) _ (no_register c rest h) ∙ failed _ _ _ (no_atom text h)
    ∙ failed _ _ (option_map (λ t. constant (term_read t)) (text_tested is_bracketed text)) (no_integer text h)
    ∙ ap (option_map (λ t. constant (term_read t))) (tested_at is_bracketed text h)

-- so a tuple or a list is read from its text
complex_again : (t : WrittenTerm) → is_term_form t ≡ true → is_bracketed (written t) ≡ true → operand_reading (written t) ≡ Some (constant t)
complex_again t h brackets = bracketed_again (written t) brackets ∙ ap (λ t. Some (constant t)) (read_again t h)

pub operand_again : (o : OperandForm) → is_operand_form o ≡ true → operand_reading (operand_written o) ≡ Some o
operand_again (register digits) h = ap (option_map (λ d. register d)) (tested_at is_number_text digits h)
operand_again (constant (integer_leaf text)) h = integer_again text h
operand_again (constant (atom_leaf text)) h = atom_again text h
operand_again (constant (tuple_of row)) h = complex_again _ h refl
operand_again (constant (list_of row)) h = complex_again _ h refl

abbrev pub operand : Reader OperandForm
operand = record { write = operand_written; Known = IsSplit; Fits = λ o. is_operand_form o ≡ true; read = operand_reading; is = operand_is; again = operand_again }

-- ---- words

abbrev pub name : Reader (List ℕ)
name = passing is_atom_text

abbrev pub slot : Reader (List ℕ)
slot = begun 36 (passing is_number_text)

abbrev pub function : Reader (List ℕ × List ℕ)
function = pair 47 name (passing is_arity_text) (λ n h. atom_lacks 47 n refl h)

abbrev pub titled : Reader (List ℕ × List ℕ)
titled = pair 46 name (passing is_version_text) (λ n h. atom_lacks 46 n refl h)

-- the text of a function's name has no such byte
pub function_lacks : (byte : ℕ) (name arity : List ℕ) → IsApart byte → (47 == byte) ≡ false → is_function_form name arity ≡ true → lacks byte (function_written name arity) ≡ true
function_lacks byte name arity apart slash h =
    let parts = and_parts _ _ h in
    lacks-append byte name _ (atom_lacks byte name apart.name parts.0) (lacks-cons byte 47 arity slash (number_lacks byte arity apart.digit (arity_number arity parts.1)))

pub external_lacks : (byte : ℕ) (name function arity : List ℕ) → IsApart byte → (47 == byte) ≡ false → (58 == byte) ≡ false → is_atom_text name ≡ true → is_function_form function arity ≡ true → lacks byte (parted_by 58 name (function_written function arity)) ≡ true
external_lacks byte name function arity apart slash colon named h =
    lacks-append byte name _ (atom_lacks byte name apart.name named) (lacks-cons byte 58 _ colon (function_lacks byte _ arity apart slash h))

abbrev pub one_operand : Reader (OperandForm × List ℕ)
one_operand = pair 32 operand slot (λ o h. operand_lacks 32 o space_outside h)

abbrev pub two_operands : Reader (OperandForm × (OperandForm × List ℕ))
two_operands = pair 32 operand one_operand (λ o h. operand_lacks 32 o space_outside h)

abbrev pub operand_name : Reader (OperandForm × List ℕ)
operand_name = pair 32 operand name (λ o h. operand_lacks 32 o space_outside h)

abbrev pub branch : Reader (OperandForm × (OperandForm × List ℕ))
branch = pair 32 operand operand_name (λ o h. operand_lacks 32 o space_outside h)

abbrev pub local_call : Reader ((List ℕ × List ℕ) × List ℕ)
local_call = pair 32 function slot (λ f h. function_lacks 32 f.0 f.1 space_apart refl (and_from _ _ h.0 h.1))

abbrev pub external : Reader (List ℕ × (List ℕ × List ℕ))
external = pair 58 name function (λ n h. atom_lacks 58 n refl h)

abbrev pub external_call : Reader ((List ℕ × (List ℕ × List ℕ)) × List ℕ)
external_call = pair 32 external slot (λ f h. external_lacks 32 f.0 f.1.0 f.1.1 space_apart refl refl h.0 (and_from _ _ h.1.0 h.1.1))

abbrev pub one_key : Reader (List ℕ × List ℕ)
one_key = pair 32 name slot (λ n h. atom_lacks 32 n refl h)

abbrev pub key_or : Reader (List ℕ × (OperandForm × List ℕ))
key_or = pair 32 name one_operand (λ n h. atom_lacks 32 n refl h)

-- ---- the operands of an instruction

both_forms : (a b : OperandForm) (last : Bool) → (is_operand_form a && (is_operand_form b && last)) ≡ true → (is_operand_form a && is_operand_form b) ≡ true
both_forms a b last h =
    let first = and_parts _ _ h in
    and_from _ _ first.0 (and_parts _ last first.1).0

pub operands_form : (i : InstrForm) → is_instr_form i ≡ true → each_operand is_operand_form (operands_of i) ≡ true
operands_form (move from to) h = (and_parts _ _ h).0
operands_form (add a b to) h = both_forms a b _ h
operands_form (sub a b to) h = both_forms a b _ h
operands_form (eq a b target) h = both_forms a b _ h
operands_form (less a b target) h = both_forms a b _ h
operands_form (ret value) h = h
operands_form (pget_or key other to) h = (and_parts _ _ (and_parts _ _ h).1).0
operands_form (elem index from to) h = both_forms index from _ h
operands_form (print value) h = h
operands_form i h = refl
