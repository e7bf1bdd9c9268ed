-- What may be wrong with a line of a module's text, after the lines before it: whether it may stand there, and each limit.
-- Source: this project's module text. The limits are counted over the lines before; the code counts as it goes.
use Rattle.std.specs.Prelude.{◌≡◌, ℕ, ◌+◌, ◌||◌, not, fold, nat_lt, nat_le, Bool, true, false, List, [], ◌∷◌, ◌++◌, length, Option, Some, None, is_none, is_some, bytes_eq, if◌then◌else◌}
use Rattle.std.specs.List.{list_any}
use Rattle.term_core.specs.declared.atom.Mfa.{Mfa}
use Rattle.term_core.specs.declared.names.TheConstants.{MOST_NAMES}
use Rattle.term_core.specs.declared.term_text.TheConstants.{MOST_WORDS}
use Rattle.term_core.specs.PlainTerm.{atoms_of, term_words}
use Rattle.term_core.specs.TermText.{names_with_all}
use Rattle.term_core.specs.Written.{outside_of}
use Rattle.mod_core.specs.declared.code.TheConstants.{REGISTERS, MOST_FUNCTIONS, LONGEST_IMAGE}
use Rattle.mod_text.specs.declared.fault.LineFault.{LineFault}
use Rattle.mod_text.specs.declared.fault.LineFault.TheVariants as faults
use Rattle.term_core.specs.Text.Numbers.{number_value}
use Rattle.mod_text.specs.ModuleLine.{OperandForm, register, constant, InstrForm, move, add, sub, call, call_ext, pget, pget_or, elem, LineForm, title, header, label, instr, end, LineText, operands_of, some_operand}
use Rattle.mod_text.specs.LineReading.{line_reading}
use Rattle.mod_core.specs.ModuleImage.{module_image}
use Rattle.mod_text.specs.ModuleValue.{headers_in, is_header, title_of, module_of, mfa_in}

-- ---- where a line may stand

-- whether the module is open behind this line: there is one, and it is not the end
abbrev pub is_open : Option LineForm → Bool
is_open None = false
is_open (Some end) = false
is_open _ = true

-- whether a function is open behind this line: its header, or a line of it
abbrev pub is_in_function : Option LineForm → Bool
is_in_function (Some (header exported name arity)) = true
is_in_function (Some (label name)) = true
is_in_function (Some (instr i)) = true
is_in_function _ = false

-- whether a line may stand behind this one, or in front of a text where there is none: the title first, then functions, each
-- with its header before its labels and instructions, then the end, and nothing more
abbrev pub may_follow : Option LineForm → LineForm → Bool
may_follow before (title name version) = is_none before
may_follow before (header exported name arity) = is_open before
may_follow before end = is_open before
may_follow before _ = is_in_function before

-- the last line of some
abbrev pub last_line : List LineForm → Option LineForm
last_line [] = None
last_line (line ∷ []) = Some line
last_line (line ∷ other ∷ lines) = last_line (other ∷ lines)

-- ---- registers

-- a register is 15 at most
abbrev pub is_high : List ℕ → Bool
is_high digits = not (nat_lt (number_value digits) REGISTERS)

-- whether an operand is a register over 15
abbrev pub has_high_operand : OperandForm → Bool
has_high_operand (register digits) = is_high digits
has_high_operand _ = false

-- whether a call has no register for its value, or its arguments pass the last register
abbrev pub is_high_call : List ℕ → List ℕ → Bool
is_high_call arity at = is_high at || not (nat_le (number_value at + number_value arity) REGISTERS)

-- whether an instruction has a register over 15, or is a call whose arguments pass register 15
abbrev pub has_high_instr : InstrForm → Bool
has_high_instr (move from to) = has_high_operand from || is_high to
has_high_instr (add a b to) = has_high_operand a || (has_high_operand b || is_high to)
has_high_instr (sub a b to) = has_high_operand a || (has_high_operand b || is_high to)
has_high_instr (call name arity at) = is_high_call arity at
has_high_instr (call_ext name function arity at) = is_high_call arity at
has_high_instr (pget key to) = is_high to
has_high_instr (pget_or key other to) = has_high_operand other || is_high to
has_high_instr (elem index from to) = has_high_operand index || (has_high_operand from || is_high to)
has_high_instr i = some_operand has_high_operand (operands_of i)

-- the same of a line
abbrev pub has_high_register : LineForm → Bool
has_high_register (instr i) = has_high_instr i
has_high_register _ = false

-- ---- integers

-- whether an operand has an integer of more than 60 bits
abbrev pub is_wide_operand : OperandForm → Bool
is_wide_operand (constant term) = is_some (outside_of term)
is_wide_operand _ = false

-- whether an operand of an instruction is
abbrev pub has_wide_instr : InstrForm → Bool
has_wide_instr i = some_operand is_wide_operand (operands_of i)

-- whether a line has an integer of more than 60 bits
abbrev pub has_wide_integer : LineForm → Bool
has_wide_integer (instr i) = some_operand is_wide_operand (operands_of i)
has_wide_integer _ = false

-- ---- sizes of terms

-- whether an operand is a term of more than 64 words
abbrev pub is_long_operand : OperandForm → Bool
is_long_operand (constant term) = nat_lt MOST_WORDS (term_words term)
is_long_operand _ = false

-- whether an operand of an instruction is
abbrev pub has_long_instr : InstrForm → Bool
has_long_instr i = some_operand is_long_operand (operands_of i)

-- whether a line has a term of more than 64 words
abbrev pub has_long_term : LineForm → Bool
has_long_term (instr i) = some_operand is_long_operand (operands_of i)
has_long_term _ = false

-- ---- names

-- the atoms of an operand, in order
abbrev pub operand_atoms : OperandForm → List (List ℕ)
operand_atoms (constant term) = atoms_of term
operand_atoms _ = []

-- the atoms of operands, in order
abbrev pub operands_atoms : List OperandForm → List (List ℕ)
operands_atoms [] = []
operands_atoms (o ∷ []) = operand_atoms o
operands_atoms (o ∷ more) = operand_atoms o ++ operands_atoms more

-- the atoms of an instruction, in order; labels are none
abbrev pub instr_atoms : InstrForm → List (List ℕ)
instr_atoms (call name arity at) = name ∷ []
instr_atoms (call_ext name function arity at) = name ∷ function ∷ []
instr_atoms (pget key to) = key ∷ []
instr_atoms (pget_or key other to) = key ∷ operand_atoms other
instr_atoms i = operands_atoms (operands_of i)

-- the atoms of a line, in order
abbrev pub line_atoms : LineForm → List (List ℕ)
line_atoms (title name version) = name ∷ []
line_atoms (header exported name arity) = name ∷ []
line_atoms (instr i) = instr_atoms i
line_atoms _ = []

-- the names after a line
abbrev pub names_after : List (List ℕ) → LineForm → List (List ℕ)
names_after names line = names_with_all names (line_atoms line)

-- whether the atoms of a line are too many for the table
abbrev pub overfills_names : List (List ℕ) → LineForm → Bool
overfills_names names line = nat_lt MOST_NAMES (length (names_after names line))

-- ---- functions and labels

-- the labels of the function at hand, after those so far and a line
abbrev pub labels_after : List (List ℕ) → LineForm → List (List ℕ)
labels_after labels (header exported name arity) = []
labels_after labels (label name) = labels ++ name ∷ []
labels_after labels _ = labels

-- the labels of the function that is open behind lines
abbrev pub open_labels : List LineForm → List (List ℕ)
open_labels lines = fold labels_after [] lines

-- whether a line is a header behind sixteen others
abbrev pub is_seventeenth : List LineForm → LineForm → Bool
is_seventeenth lines (header exported name arity) = nat_le MOST_FUNCTIONS (length (headers_in lines))
is_seventeenth lines _ = false

-- whether a line is the end of a module whose image is too long
abbrev pub ends_too_long : List (List ℕ) → List LineForm → LineForm → Bool
ends_too_long names lines end = nat_lt LONGEST_IMAGE (length (module_image (module_of names (lines ++ end ∷ []))))
ends_too_long names lines _ = false

-- whether a line is a header of a function, or a label of the function at hand, that was given before
abbrev pub is_repeated : List LineForm → LineForm → Bool
is_repeated lines (header exported name arity) = list_any (is_header name arity) (headers_in lines)
is_repeated lines (label name) = list_any (bytes_eq name) (open_labels lines)
is_repeated lines _ = false

-- ---- the fault of a line

-- the limit that a line passes by the lines before it, or none; each in the order of judging
abbrev pub place_fault : List (List ℕ) → List LineForm → LineForm → Option LineFault
place_fault names lines line =
    if is_seventeenth lines line then Some faults.TooManyFunctions
    else (if ends_too_long names lines line then Some faults.TooLong
    else (if is_repeated lines line then Some faults.Duplicate
    else None))

-- the limit that a line passes which may stand where it does, after these names and lines, or none
abbrev pub fault_of_line : List (List ℕ) → List LineForm → LineForm → Option LineFault
fault_of_line names lines line =
    if has_high_register line then Some faults.Register
    else (if has_wide_integer line then Some faults.Int
    else (if has_long_term line then Some faults.Term
    else (if overfills_names names line then Some faults.Names
    else place_fault names lines line)))

-- the bytes are the text of a line that may stand behind these
pub record StandsBehind (lines : List LineForm) (text : List ℕ) (line : LineForm) : Type 0 where
  pub is_text : LineText text line
  pub place : may_follow (last_line lines) line ≡ true

-- what is wrong with a text behind these names and lines: no line that may stand there has it, or its line passes a limit
pub data HasLineFault (names : List (List ℕ)) (lines : List LineForm) (text : List ℕ) : LineFault → Type 0 where
  of_no_form : ((line : LineForm) → StandsBehind lines text line → ⊥) → HasLineFault names lines text faults.Syntax
  over_limit : (line : LineForm) (fault : LineFault) → StandsBehind lines text line → fault_of_line names lines line ≡ Some fault → HasLineFault names lines text fault

-- a line that may follow these names and lines, and passes no limit
pub record IsNext (names : List (List ℕ)) (lines : List LineForm) (text : List ℕ) (line : LineForm) : Type 0 where
  pub stands : StandsBehind lines text line
  pub within : fault_of_line names lines line ≡ None

-- ---- function names

-- the function name that an instruction has as an external call
abbrev pub called_name : List (List ℕ) → InstrForm → Option Mfa
called_name names (call_ext name function arity at) = Some (mfa_in names name function arity)
called_name names _ = None

-- the function name that a line has behind these lines, as the header of an exported function or as an external call
abbrev pub counted_name : List (List ℕ) → List LineForm → LineForm → Option Mfa
counted_name names lines (header exported name arity) = if exported then Some (mfa_in names (title_of lines).0 name arity) else None
counted_name names lines (instr i) = called_name names i
counted_name names lines _ = None

-- the same of the line with this text, if there is one
abbrev pub counted_by : List (List ℕ) → List LineForm → Option LineForm → Option Mfa
counted_by names lines None = None
counted_by names lines (Some line) = counted_name names lines line

-- the function name that a text has as the line behind these
abbrev pub counted_of : List (List ℕ) → List LineForm → List ℕ → Option Mfa
counted_of names lines text = counted_by names lines (line_reading text)
