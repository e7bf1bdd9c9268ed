-- The canonical text of a module, as lines: an instruction N of a function has a label before it, `lN`, exactly where some
-- instruction of that function has the target N; the same place behind the last one too.
-- Source: this project's module text. Each atom has the text of its number in a table of names.
use Rattle.std.specs.Prelude.{ℕ, ◌+◌, ◌==◌, Bool, false, List, [], ◌∷◌, ◌++◌, codes, Option, Some, None, slice_get, decimal, if◌then◌else◌}
use Rattle.std.specs.List.{flat_map, list_any}
use Rattle.std.specs.Fmt.{signed_decimal}
use Rattle.term_core.specs.Plain.{plain}
use Rattle.term_core.specs.PlainTerm.{PlainTerm, map_leaves}
use Rattle.term_core.specs.TermText.{atom_text}
use Rattle.term_core.specs.Written.{WrittenTerm}
use Rattle.mod_core.specs.declared.code.Operand.{Operand}
use Rattle.mod_core.specs.declared.code.Operand.TheVariants.{Reg, Const}
use Rattle.mod_core.specs.declared.code.Instr.{Instr}
use Rattle.mod_core.specs.declared.code.Instr.TheVariants.{Move, Add, Sub, Eq, Less, Jump, Call, CallExt, Ret, Pget, PgetOr, Elem, Print, Yield}
use Rattle.mod_core.specs.declared.code.Function.{Function}
use Rattle.mod_core.specs.declared.code.Module.{Module}
use Rattle.mod_text.specs.ModuleLine.{OperandForm, register, constant, InstrForm, move, add, sub, eq, less, jump, call, call_ext, ret, pget, pget_or, elem, print, yield, LineForm, title, header, label, instr, end, function_written}

-- `lN`
abbrev pub label_text : ℕ → List ℕ
label_text number = codes "l" ++ decimal number

-- a term, with the texts of its integers and atoms
abbrev pub term_form : List (List ℕ) → PlainTerm → WrittenTerm
term_form names term = map_leaves signed_decimal (atom_text names) term

-- an operand, as it is written
abbrev pub written_operand : List (List ℕ) → Operand → OperandForm
written_operand names (Reg number) = register (decimal number)
written_operand names (Const term) = constant (term_form names (plain term))

-- a call of a function of the module, if there is one
abbrev pub written_call : List (List ℕ) → Option Function → ℕ → InstrForm
written_call names None at = call [] [] (decimal at)
written_call names (Some f) at = call (atom_text names f.name.0) (decimal f.arity) (decimal at)

-- a function of the module as a call names it
abbrev pub callee_text : List (List ℕ) → Option Function → List ℕ
callee_text names None = function_written [] []
callee_text names (Some f) = function_written (atom_text names f.name.0) (decimal f.arity)

-- an instruction of a module with these functions, as it is written
abbrev pub written_instr : List (List ℕ) → List Function → Instr → InstrForm
written_instr names fs (Move from to) = move (written_operand names from) (decimal to)
written_instr names fs (Add a b to) = add (written_operand names a) (written_operand names b) (decimal to)
written_instr names fs (Sub a b to) = sub (written_operand names a) (written_operand names b) (decimal to)
written_instr names fs (Eq a b target) = eq (written_operand names a) (written_operand names b) (label_text target)
written_instr names fs (Less a b target) = less (written_operand names a) (written_operand names b) (label_text target)
written_instr names fs (Jump target) = jump (label_text target)
written_instr names fs (Call function at) = written_call names (slice_get fs function) at
written_instr names fs (CallExt to at) = call_ext (atom_text names to.«module».0) (atom_text names to.name.0) (decimal to.arity) (decimal at)
written_instr names fs (Ret value) = ret (written_operand names value)
written_instr names fs (Pget key to) = pget (atom_text names key.0) (decimal to)
written_instr names fs (PgetOr key other to) = pget_or (atom_text names key.0) (written_operand names other) (decimal to)
written_instr names fs (Elem index from to) = elem (written_operand names index) (written_operand names from) (decimal to)
written_instr names fs (Print value) = print (written_operand names value)
written_instr names fs Yield = yield

-- whether an instruction has this target
abbrev pub goes_to : ℕ → Instr → Bool
goes_to number (Eq a b target) = target == number
goes_to number (Less a b target) = target == number
goes_to number (Jump target) = target == number
goes_to number _ = false

-- the label of a number, if it is a target
abbrev pub labels_where : Bool → ℕ → List LineForm
labels_where is_target number = if is_target then label (label_text number) ∷ [] else []

-- the label of a number, where the code goes to it
abbrev pub labels_at : List Instr → ℕ → List LineForm
labels_at code number = labels_where (list_any (goes_to number) code) number

-- the lines of the instructions from a number on, of a function with this code
abbrev pub lines_from : List (List ℕ) → List Function → List Instr → ℕ → List Instr → List LineForm
lines_from names fs code number [] = labels_at code number
lines_from names fs code number (i ∷ is) = labels_at code number ++ instr (written_instr names fs i) ∷ lines_from names fs code (number + 1) is

-- the lines of a function
abbrev pub function_lines : List (List ℕ) → List Function → Function → List LineForm
function_lines names fs f = header f.exported (atom_text names f.name.0) (decimal f.arity) ∷ lines_from names fs f.code 0 f.code

-- the lines of a module
abbrev pub canonical : List (List ℕ) → Module → List LineForm
canonical names m =
    title (atom_text names m.name.0) (decimal m.version) ∷ (flat_map (function_lines names m.functions) m.functions ++ end ∷ [])
