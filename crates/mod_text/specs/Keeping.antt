-- What a reader of a module's text keeps of its lines: each passed the limits that it can pass alone, and the functions and the
-- labels at hand are those of the lines.
use Rattle.std.specs.Prelude.{◌≡◌, ℕ, ◌+◌, ◌≤◌, nat_lt, Bool, true, false, Option, Some, None, List, [], ◌∷◌, ◌++◌, length, sum_by, All, Result, Ok, Err, if◌then◌else◌}
use Rattle.term_core.specs.declared.names.TheConstants.{MOST_NAMES}
use Rattle.term_core.specs.PlainTerm.{tuple_of, list_of, term_words}
use Rattle.term_core.specs.TermText.{names_with_all}
use Rattle.mod_core.specs.declared.code.TheConstants.{MOST_FUNCTIONS}
use Rattle.mod_text.specs.declared.fault.LineFault.{LineFault}
use Rattle.mod_text.specs.declared.fault.LineFault.TheVariants as faults
use Rattle.mod_text.specs.ModuleLine.{OperandForm, constant, InstrForm, move, add, sub, eq, less, jump, call, call_ext, ret, pget, pget_or, elem, print, yield, LineForm, header, instr, end, is_operand_form, is_instr_form, is_line_form}
use Rattle.mod_text.specs.LineFaults.{may_follow, last_line, has_high_operand, has_high_instr, has_high_register, is_wide_operand, has_wide_instr, has_wide_integer, has_long_instr, has_long_term, open_labels, place_fault}
use Rattle.mod_text.specs.ModuleValue.{HeaderForm, headers_in}

-- a line whose numbers, integers and terms are within their limits
pub record IsKept (line : LineForm) : Type 0 where
  pub sound : is_line_form line ≡ true
  pub low : has_high_register line ≡ false
  pub narrow : has_wide_integer line ≡ false
  pub short : has_long_term line ≡ false

-- an operand whose number and integers are within their limits
pub record IsKeptOperand (o : OperandForm) : Type 0 where
  pub sound : is_operand_form o ≡ true
  pub low : has_high_operand o ≡ false
  pub narrow : is_wide_operand o ≡ false

-- an instruction whose numbers, integers and terms are
pub record IsKeptInstr (i : InstrForm) : Type 0 where
  pub sound : is_instr_form i ≡ true
  pub low : has_high_instr i ≡ false
  pub narrow : has_wide_instr i ≡ false
  pub short : has_long_instr i ≡ false

-- each line may stand behind the one before it
abbrev pub RowFrom : Option LineForm → List LineForm → Type 0
RowFrom before [] = Unit {0}
RowFrom before (line ∷ lines) = (may_follow before line ≡ true) × RowFrom (Some line) lines

-- the lines stand in a row, this is the last one, the headers are theirs, and the labels those of the function that is open behind them
pub record AreKept (lines : List LineForm) (last : Option LineForm) (headers : List HeaderForm) (labels : List (List ℕ)) : Type 0 where
  pub row : RowFrom None lines
  pub last_is : last ≡ last_line lines
  pub each : All IsKept lines
  pub functions : headers ≡ headers_in lines
  pub few : length headers ≤ MOST_FUNCTIONS
  pub labelled : labels ≡ open_labels lines

-- the names after texts were named, unless they are too many for the table
abbrev pub naming : List (List ℕ) → List (List ℕ) → Result (List (List ℕ)) LineFault
naming names texts = if nat_lt MOST_NAMES (length (names_with_all names texts)) then Err faults.Names else Ok (names_with_all names texts)

-- a line, by its place behind another and by what it is alone
abbrev pub judged_behind : Option LineForm → LineForm → Result LineForm LineFault
judged_behind before line =
    if may_follow before line
    then (if has_high_register line then Err faults.Register else (if has_wide_integer line then Err faults.Int else (if has_long_term line then Err faults.Term else Ok line)))
    else Err faults.Syntax

-- the same of the line with a text, if there is one
abbrev pub judged_alone : List LineForm → Option LineForm → Result LineForm LineFault
judged_alone lines None = Err faults.Syntax
judged_alone lines (Some line) = judged_behind (last_line lines) line

-- the lines with one line more, unless it passes a limit by the lines before it
abbrev pub keeping_by : List LineForm → LineForm → Option LineFault → Result (List LineForm) LineFault
keeping_by lines line None = Ok (lines ++ line ∷ [])
keeping_by lines line (Some fault) = Err fault

-- the same, with the limit that the line passes under these names, if it passes one
abbrev pub keeping : List (List ℕ) → List LineForm → LineForm → Result (List LineForm) LineFault
keeping names lines line = keeping_by lines line (place_fault names lines line)

-- ---- how many words of an image are those of a line

-- an operand that is a tuple or a list has an image of its own behind the code
abbrev pub operand_form_words : OperandForm → ℕ
operand_form_words (constant (tuple_of row)) = term_words (tuple_of row)
operand_form_words (constant (list_of row)) = term_words (list_of row)
operand_form_words _ = 0

-- an instruction: its number, a word for each operand, target, callee and register, and the images of its tuples and lists
abbrev pub instr_form_words : InstrForm → ℕ
instr_form_words (move from to) = 3 + operand_form_words from
instr_form_words (add a b to) = 4 + (operand_form_words a + operand_form_words b)
instr_form_words (sub a b to) = 4 + (operand_form_words a + operand_form_words b)
instr_form_words (eq a b target) = 4 + (operand_form_words a + operand_form_words b)
instr_form_words (less a b target) = 4 + (operand_form_words a + operand_form_words b)
instr_form_words (jump target) = 2
instr_form_words (call name arity at) = 3
instr_form_words (call_ext name function arity at) = 3
instr_form_words (ret value) = 2 + operand_form_words value
instr_form_words (pget key to) = 3
instr_form_words (pget_or key other to) = 4 + operand_form_words other
instr_form_words (elem index from to) = 4 + (operand_form_words index + operand_form_words from)
instr_form_words (print value) = 2 + operand_form_words value
instr_form_words yield = 1

-- a function has four words of its own, and two of the return at its end
abbrev pub line_words : LineForm → ℕ
line_words (header exported name arity) = 6
line_words (instr i) = instr_form_words i
line_words _ = 0

-- how many words the image of the module has that lines say
abbrev pub lines_words : List LineForm → ℕ
lines_words lines = 4 + sum_by line_words lines

-- whether a line is the end
abbrev pub is_end_line : Option LineForm → Bool
is_end_line (Some end) = true
is_end_line _ = false
