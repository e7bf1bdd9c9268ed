-- The lines of a module's text, as they are written: atoms, labels and numbers by their texts, functions by their names.
-- Source: this project's module text. Each line has one text, so a line is of a form where it is that form's text; the code reads bytes.
use Rattle.std.specs.Prelude.{◌≡◌, ℕ, ◌&&◌, ◌||◌, nat_le, Bool, true, false, List, [], ◌∷◌, ◌++◌, IsTrue, codes}
use Rattle.std.specs.List.{flat_map}
use Rattle.term_core.specs.Names.{is_atom_text}
use Rattle.term_core.specs.PlainTerm.{TermOf, RowOf, integer_leaf, atom_leaf, tuple_of, list_of, no_terms, term_then}
use Rattle.term_core.specs.Written.{WrittenTerm, written, is_integer_text}
use Rattle.term_core.specs.Text.Numbers.{is_number_text, number_value}
use Rattle.mod_core.specs.declared.code.TheConstants.{MOST_ARGUMENTS, GREATEST_VERSION}

-- an operand: a register, by the digits of its number, or a term
pub data OperandForm : Type 0 where
  register : List ℕ → OperandForm
  constant : WrittenTerm → OperandForm

-- an instruction, in the order of the instructions' numbers; labels and atoms are texts, and arities and registers digits
pub data InstrForm : Type 0 where
  move : OperandForm → List ℕ → InstrForm
  add : OperandForm → OperandForm → List ℕ → InstrForm
  sub : OperandForm → OperandForm → List ℕ → InstrForm
  eq : OperandForm → OperandForm → List ℕ → InstrForm
  less : OperandForm → OperandForm → List ℕ → InstrForm
  jump : List ℕ → InstrForm
  call : List ℕ → List ℕ → List ℕ → InstrForm
  call_ext : List ℕ → List ℕ → List ℕ → List ℕ → InstrForm
  ret : OperandForm → InstrForm
  pget : List ℕ → List ℕ → InstrForm
  pget_or : List ℕ → OperandForm → List ℕ → InstrForm
  elem : OperandForm → OperandForm → List ℕ → InstrForm
  print : OperandForm → InstrForm
  yield : InstrForm

-- a line: the module's name and version, a function's name and arity and whether it is exported, a label, an instruction, the end
pub data LineForm : Type 0 where
  title : List ℕ → List ℕ → LineForm
  header : Bool → List ℕ → List ℕ → LineForm
  label : List ℕ → LineForm
  instr : InstrForm → LineForm
  end : LineForm

-- the operands of an instruction, in order
abbrev pub operands_of : InstrForm → List OperandForm
operands_of (move from to) = from ∷ []
operands_of (add a b to) = a ∷ b ∷ []
operands_of (sub a b to) = a ∷ b ∷ []
operands_of (eq a b target) = a ∷ b ∷ []
operands_of (less a b target) = a ∷ b ∷ []
operands_of (ret value) = value ∷ []
operands_of (pget_or key other to) = other ∷ []
operands_of (elem index from to) = index ∷ from ∷ []
operands_of (print value) = value ∷ []
operands_of _ = []

-- whether one of these operands passes a test
abbrev pub some_operand : (OperandForm → Bool) → List OperandForm → Bool
some_operand test [] = false
some_operand test (o ∷ []) = test o
some_operand test (o ∷ more) = test o || some_operand test more

-- whether each of these operands passes a test
abbrev pub each_operand : (OperandForm → Bool) → List OperandForm → Bool
each_operand test [] = true
each_operand test (o ∷ []) = test o
each_operand test (o ∷ more) = test o && each_operand test more

-- ---- texts

-- two texts with a byte between them
abbrev pub parted_by : ℕ → List ℕ → List ℕ → List ℕ
parted_by byte first rest = first ++ byte ∷ rest

-- words with a space between them
abbrev pub spaced : List ℕ → List ℕ → List ℕ
spaced first rest = parted_by 32 first rest

-- `$0`
abbrev pub register_written : List ℕ → List ℕ
register_written digits = 36 ∷ digits

-- the text of an operand
abbrev pub operand_written : OperandForm → List ℕ
operand_written (register digits) = register_written digits
operand_written (constant term) = written term

-- `main/0`
abbrev pub function_written : List ℕ → List ℕ → List ℕ
function_written name arity = parted_by 47 name arity

-- the text of an instruction
abbrev pub instr_written : InstrForm → List ℕ
instr_written (move from to) = spaced (codes "move") (spaced (operand_written from) (register_written to))
instr_written (add a b to) = spaced (codes "add") (spaced (operand_written a) (spaced (operand_written b) (register_written to)))
instr_written (sub a b to) = spaced (codes "sub") (spaced (operand_written a) (spaced (operand_written b) (register_written to)))
instr_written (eq a b target) = spaced (codes "eq") (spaced (operand_written a) (spaced (operand_written b) target))
instr_written (less a b target) = spaced (codes "less") (spaced (operand_written a) (spaced (operand_written b) target))
instr_written (jump target) = spaced (codes "jump") target
instr_written (call name arity at) = spaced (codes "call") (spaced (function_written name arity) (register_written at))
instr_written (call_ext name function arity at) = spaced (codes "call_ext") (spaced (parted_by 58 name (function_written function arity)) (register_written at))
instr_written (ret value) = spaced (codes "ret") (operand_written value)
instr_written (pget key to) = spaced (codes "pget") (spaced key (register_written to))
instr_written (pget_or key other to) = spaced (codes "pget_or") (spaced key (spaced (operand_written other) (register_written to)))
instr_written (elem index from to) = spaced (codes "elem") (spaced (operand_written index) (spaced (operand_written from) (register_written to)))
instr_written (print value) = spaced (codes "print") (operand_written value)
instr_written yield = codes "yield"

-- the word that a header begins with
abbrev pub header_word : Bool → List ℕ
header_word true = codes "export"
header_word false = codes "local"

-- the text of a line, without its line feed
abbrev pub line_written : LineForm → List ℕ
line_written (title name version) = spaced (codes "module") (parted_by 46 name version)
line_written (header exported name arity) = spaced (header_word exported) (function_written name arity)
line_written (label name) = spaced (codes "label") name
line_written (instr i) = instr_written i
line_written end = codes "end"

-- the bytes of a line with its line feed
abbrev pub line_bytes : LineForm → List ℕ
line_bytes line = line_written line ++ 10 ∷ []

-- the bytes of lines, each with its line feed
abbrev pub lines_written : List LineForm → List ℕ
lines_written lines = flat_map (λ line. line_bytes line) lines

-- ---- what may stand in a line

-- a version, from 1 to 999999
abbrev pub is_version_text : List ℕ → Bool
is_version_text text = is_number_text text && (nat_le 1 (number_value text) && nat_le (number_value text) GREATEST_VERSION)

-- an arity, at most 15
abbrev pub is_arity_text : List ℕ → Bool
is_arity_text text = is_number_text text && nat_le (number_value text) MOST_ARGUMENTS

-- a term, each leaf of which has its text; its integers may be of any size
abbrev mutual
  pub is_term_form : TermOf (List ℕ) (List ℕ) → Bool
  is_term_form (integer_leaf text) = is_integer_text text
  is_term_form (atom_leaf text) = is_atom_text text
  is_term_form (tuple_of row) = is_row_form row
  is_term_form (list_of row) = is_row_form row

  -- the same of a row
  pub is_row_form : RowOf (List ℕ) (List ℕ) → Bool
  is_row_form no_terms = true
  is_row_form (term_then t row) = is_term_form t && is_row_form row

-- an operand; the number of a register and the integers of a term may be of any size here
abbrev pub is_operand_form : OperandForm → Bool
is_operand_form (register digits) = is_number_text digits
is_operand_form (constant term) = is_term_form term

-- a function's name, without its module
abbrev pub is_function_form : List ℕ → List ℕ → Bool
is_function_form name arity = is_atom_text name && is_arity_text arity

-- an instruction, each part of which has its text
abbrev pub is_instr_form : InstrForm → Bool
is_instr_form (move from to) = is_operand_form from && is_number_text to
is_instr_form (add a b to) = is_operand_form a && (is_operand_form b && is_number_text to)
is_instr_form (sub a b to) = is_operand_form a && (is_operand_form b && is_number_text to)
is_instr_form (eq a b target) = is_operand_form a && (is_operand_form b && is_atom_text target)
is_instr_form (less a b target) = is_operand_form a && (is_operand_form b && is_atom_text target)
is_instr_form (jump target) = is_atom_text target
is_instr_form (call name arity at) = is_function_form name arity && is_number_text at
is_instr_form (call_ext name function arity at) = is_atom_text name && (is_function_form function arity && is_number_text at)
is_instr_form (ret value) = is_operand_form value
is_instr_form (pget key to) = is_atom_text key && is_number_text to
is_instr_form (pget_or key other to) = is_atom_text key && (is_operand_form other && is_number_text to)
is_instr_form (elem index from to) = is_operand_form index && (is_operand_form from && is_number_text to)
is_instr_form (print value) = is_operand_form value
is_instr_form yield = true

-- a line, each part of which has its text
abbrev pub is_line_form : LineForm → Bool
is_line_form (title name version) = is_atom_text name && is_version_text version
is_line_form (header exported name arity) = is_function_form name arity
is_line_form (label name) = is_atom_text name
is_line_form (instr i) = is_instr_form i
is_line_form end = true

-- the bytes are the text of this line
pub record LineText (text : List ℕ) (line : LineForm) : Type 0 where
  pub text_is : text ≡ line_written line
  pub sound : IsTrue (is_line_form line)
