-- The module that the lines of a text say: its functions by their headers, its targets by the labels of the same function, its
-- local calls by the number of the function, its atoms by their numbers in a table of names.
-- The definition looks each label and function up in the whole text; the code goes over the lines a few times.
use Rattle.std.specs.Prelude.{◌≡◌, ℕ, suc, ◌&&◌, Bool, true, List, [], ◌∷◌, map, Option, Some, None, is_some, option_map, position, unwrap_or, bytes_eq, if◌then◌else◌}
use Rattle.term_core.specs.declared.atom.AtomId.{AtomId}
use Rattle.term_core.specs.declared.atom.Mfa.{Mfa}
use Rattle.term_core.specs.Plain.{term_of}
use Rattle.term_core.specs.PlainTerm.{map_leaves}
use Rattle.term_core.specs.TermText.{number_in}
use Rattle.term_core.specs.Written.{integer_of}
use Rattle.mod_core.specs.declared.code.Operand.{Operand}
use Rattle.mod_core.specs.declared.code.Operand.TheVariants.{Reg, Const}
use Rattle.mod_core.specs.declared.code.Instr.{Instr}
use Rattle.mod_core.specs.declared.code.Instr.TheVariants.{Move, Add, Sub, Eq, Less, Jump, Call, CallExt, Ret, Pget, PgetOr, Elem, Print, Yield}
use Rattle.mod_core.specs.declared.code.Function.{Function}
use Rattle.mod_core.specs.declared.code.Module.{Module}
use Rattle.mod_text.specs.declared.fault.FinishFault.{FinishFault}
use Rattle.mod_text.specs.declared.fault.FinishFault.TheVariants.{Missing, NoMemory}
use Rattle.term_core.specs.Text.Numbers.{number_value}
use Rattle.mod_text.specs.ModuleLine.{OperandForm, register, constant, InstrForm, move, add, sub, eq, less, jump, call, call_ext, ret, pget, pget_or, elem, print, yield, LineForm, title, header, label, instr}

-- a function as it is written: its header and the lines below it
pub record FunctionForm : Type 0 where
  pub exported : Bool
  pub name : List ℕ
  pub arity : List ℕ
  pub body : List LineForm

-- the labels and instructions up to the next header or the end
abbrev pub body_of : List LineForm → List LineForm
body_of (label name ∷ lines) = label name ∷ body_of lines
body_of (instr i ∷ lines) = instr i ∷ body_of lines
body_of _ = []

-- the functions of a text, in order
abbrev pub functions_in : List LineForm → List FunctionForm
functions_in [] = []
functions_in (header exported name arity ∷ lines) = record { exported = exported; name = name; arity = arity; body = body_of lines } ∷ functions_in lines
functions_in (line ∷ lines) = functions_in lines

-- a function's name and arity
abbrev pub HeaderForm : Type 0
HeaderForm = List ℕ × List ℕ

-- the headers of lines, in order
abbrev pub headers_in : List LineForm → List HeaderForm
headers_in lines = map (λ f. (f.name, f.arity)) (functions_in lines)

-- the instructions below a header, in order
abbrev pub instrs_in : List LineForm → List InstrForm
instrs_in [] = []
instrs_in (instr i ∷ lines) = i ∷ instrs_in lines
instrs_in (line ∷ lines) = instrs_in lines

-- the number of the instruction that a label names: how many instructions stand before the label
abbrev pub label_number : List ℕ → List LineForm → Option ℕ
label_number wanted [] = None
label_number wanted (label name ∷ lines) = if bytes_eq name wanted then Some 0 else label_number wanted lines
label_number wanted (instr i ∷ lines) = option_map suc (label_number wanted lines)
label_number wanted (line ∷ lines) = label_number wanted lines

-- whether a header has this name and arity; each number has one text
abbrev pub is_header : List ℕ → List ℕ → HeaderForm → Bool
is_header name arity h = bytes_eq h.0 name && bytes_eq h.1 arity

-- the number of a function among those with these headers
abbrev pub function_number : List ℕ → List ℕ → List HeaderForm → Option ℕ
function_number name arity headers = position (is_header name arity) headers

-- the atom with this text
abbrev pub atom_in : List (List ℕ) → List ℕ → AtomId
atom_in names text = record { 0 = number_in names text }

-- the operand that is written so
abbrev pub operand_in : List (List ℕ) → OperandForm → Operand
operand_in names (register digits) = Reg (number_value digits)
operand_in names (constant term) = Const (term_of (map_leaves integer_of (number_in names) term))

-- the name of an external function that is written so
abbrev pub mfa_in : List (List ℕ) → List ℕ → List ℕ → List ℕ → Mfa
mfa_in names name function arity = record { «module» = atom_in names name; name = atom_in names function; arity = number_value arity }

-- the number of the label's instruction in the function with this body
abbrev pub target_in : List LineForm → List ℕ → ℕ
target_in body wanted = unwrap_or (label_number wanted body) 0

-- the number of the function that is called, among those with these headers
abbrev pub callee_in : List HeaderForm → List ℕ → List ℕ → ℕ
callee_in headers name arity = unwrap_or (function_number name arity headers) 0

-- the instruction that is written so, in a function with this body, in a module with these headers
abbrev pub instr_in : List (List ℕ) → List HeaderForm → List LineForm → InstrForm → Instr
instr_in names headers body (move from to) = Move (operand_in names from) (number_value to)
instr_in names headers body (add a b to) = Add (operand_in names a) (operand_in names b) (number_value to)
instr_in names headers body (sub a b to) = Sub (operand_in names a) (operand_in names b) (number_value to)
instr_in names headers body (eq a b target) = Eq (operand_in names a) (operand_in names b) (target_in body target)
instr_in names headers body (less a b target) = Less (operand_in names a) (operand_in names b) (target_in body target)
instr_in names headers body (jump target) = Jump (target_in body target)
instr_in names headers body (call name arity at) = Call (callee_in headers name arity) (number_value at)
instr_in names headers body (call_ext name function arity at) = CallExt (mfa_in names name function arity) (number_value at)
instr_in names headers body (ret value) = Ret (operand_in names value)
instr_in names headers body (pget key to) = Pget (atom_in names key) (number_value to)
instr_in names headers body (pget_or key other to) = PgetOr (atom_in names key) (operand_in names other) (number_value to)
instr_in names headers body (elem index from to) = Elem (operand_in names index) (operand_in names from) (number_value to)
instr_in names headers body (print value) = Print (operand_in names value)
instr_in names headers body yield = Yield

-- the function that is written so, in a module with these headers
abbrev pub function_in : List (List ℕ) → List HeaderForm → FunctionForm → Function
function_in names headers f = record { name = atom_in names f.name; arity = number_value f.arity; exported = f.exported; code = map (instr_in names headers f.body) (instrs_in f.body) }

-- the name and version of the module whose text begins so
abbrev pub title_of : List LineForm → HeaderForm
title_of (title name version ∷ lines) = (name, version)
title_of _ = ([], [])

-- the first line is that of the title
abbrev pub IsTitled : List LineForm → Type 0
IsTitled (title name version ∷ lines) = Unit {0}
IsTitled _ = ⊥

-- the module that the lines of a text say
abbrev pub module_of : List (List ℕ) → List LineForm → Module
module_of names lines = record {
  name = atom_in names (title_of lines).0;
  version = number_value (title_of lines).1;
  functions = map (function_in names (headers_in lines)) (functions_in lines);
}

-- ---- labels and local functions that are lacking

-- whether the function with this body has this label
abbrev pub has_label : List LineForm → List ℕ → Bool
has_label body wanted = is_some (label_number wanted body)

-- whether the function with this body has the label that an instruction goes to, and the module with these headers the function that it calls
abbrev pub is_settled : List HeaderForm → List LineForm → InstrForm → Bool
is_settled headers body (eq a b target) = has_label body target
is_settled headers body (less a b target) = has_label body target
is_settled headers body (jump target) = has_label body target
is_settled headers body (call name arity at) = is_some (function_number name arity headers)
is_settled headers body _ = true

-- the same of a line
abbrev pub is_settled_line : List HeaderForm → List LineForm → LineForm → Bool
is_settled_line headers body (instr i) = is_settled headers body i
is_settled_line headers body _ = true

-- how many of these lines stand before the first whose label or local function is lacking, in a function with this body
abbrev pub unsettled_at : List HeaderForm → List LineForm → List LineForm → Option ℕ
unsettled_at headers body [] = None
unsettled_at headers body (line ∷ lines) = if is_settled_line headers body line then option_map suc (unsettled_at headers body lines) else Some 0

-- the number of the first line of a body whose label or local function is lacking
abbrev pub unsettled_in : List HeaderForm → List LineForm → Option ℕ
unsettled_in headers body = unsettled_at headers body body

-- the same in the body of the function that a line begins, before these
abbrev pub unsettled_below : List HeaderForm → LineForm → List LineForm → Option ℕ
unsettled_below headers (header exported name arity) lines = unsettled_in headers (body_of lines)
unsettled_below headers _ lines = None

-- the first number that there is
abbrev pub earlier : Option ℕ → Option ℕ → Option ℕ
earlier (Some number) later = Some number
earlier None later = later

-- how many lines stand before the first whose label or local function is lacking: in the first function where there is one
abbrev pub first_unsettled : List HeaderForm → List LineForm → Option ℕ
first_unsettled headers [] = None
first_unsettled headers (line ∷ lines) = option_map suc (earlier (unsettled_below headers line lines) (first_unsettled headers lines))

-- the number of the first line of a text whose label or local function is lacking
abbrev pub unsettled_line : List LineForm → Option ℕ
unsettled_line lines = first_unsettled (headers_in lines) lines

-- what a refusal to settle the lines says: the first line whose label or local function is lacking; want of memory is free
abbrev pub IsMissing : List LineForm → FinishFault → Type 0
IsMissing lines (Missing number) = unsettled_line lines ≡ Some number
IsMissing lines NoMemory = Unit {0}
