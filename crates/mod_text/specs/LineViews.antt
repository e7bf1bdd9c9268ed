-- The forms of lines whose words are slices of a text, and of the texts of lines.
use Rattle.std.specs.Prelude.{ℕ, ◌||◌, not, List, [], map, unwrap_or, if◌then◌else◌}
use Rattle.std.specs.Borrow.{Bor}
use Rattle.term_core.specs.PlainTerm.{integer_leaf, atom_leaf}
use Rattle.term_core.specs.TermForms.{is_bracketed, is_term_text}
use Rattle.term_core.specs.Written.{is_integer_text}
use Rattle.mod_text.specs.declared.written.WrittenOperand.{WrittenOperand}
use Rattle.mod_text.specs.declared.written.WrittenOperand.TheVariants.{Register, Integer, Atom, Complex}
use Rattle.mod_text.specs.declared.written.WrittenInstr.{WrittenInstr}
use Rattle.mod_text.specs.declared.written.WrittenInstr.TheVariants.{Move, Add, Sub, Eq, Less, Jump, Call, CallExt, Ret, Pget, PgetOr, Elem, Print, Yield}
use Rattle.mod_text.specs.declared.written.WrittenLine.{WrittenLine}
use Rattle.mod_text.specs.declared.written.WrittenLine.TheVariants.{Title, Header, Label, Instr, End}
use Rattle.mod_text.specs.LineReading.{term_read, line_split}
use Rattle.mod_text.specs.ModuleLine.{OperandForm, register, constant, InstrForm, move, add, sub, eq, less, jump, call, call_ext, ret, pget, pget_or, elem, print, yield, LineForm, title, header, label, instr, end}

-- an integer, by its text; of a text that is none, an operand that is none
unfoldable pub integer_form : List ℕ → OperandForm
integer_form text = if is_integer_text text then constant (integer_leaf text) else register []

-- a tuple or a list, by its text; of the text of an integer or an atom, an operand that is none
unfoldable pub complex_form : List ℕ → OperandForm
complex_form text = if is_bracketed text || not (is_term_text text) then constant (term_read text) else register []

-- the form of an operand: its digits as bytes, and a constant as a written term
abbrev pub operand_form : WrittenOperand → OperandForm
operand_form (Register digits) = register digits.now
operand_form (Integer text) = integer_form text.now
operand_form (Atom text) = constant (atom_leaf text.now)
operand_form (Complex text) = complex_form text.now

-- the form of an instruction
abbrev pub instr_form : WrittenInstr → InstrForm
instr_form (Move from to) = move (operand_form from) to.now
instr_form (Add a b to) = add (operand_form a) (operand_form b) to.now
instr_form (Sub a b to) = sub (operand_form a) (operand_form b) to.now
instr_form (Eq a b target) = eq (operand_form a) (operand_form b) target.now
instr_form (Less a b target) = less (operand_form a) (operand_form b) target.now
instr_form (Jump target) = jump target.now
instr_form (Call name arity at) = call name.now arity.now at.now
instr_form (CallExt m name arity at) = call_ext m.now name.now arity.now at.now
instr_form (Ret value) = ret (operand_form value)
instr_form (Pget key to) = pget key.now to.now
instr_form (PgetOr key other to) = pget_or key.now (operand_form other) to.now
instr_form (Elem index from to) = elem (operand_form index) (operand_form from) to.now
instr_form (Print value) = print (operand_form value)
instr_form Yield = yield

-- the form of a line
abbrev pub line_form : WrittenLine → LineForm
line_form (Title name version) = title name.now version.now
line_form (Header exported name arity) = header exported name.now arity.now
line_form (Label name) = label name.now
line_form (Instr i) = instr (instr_form i)
line_form End = end

-- the line with this text; each text that is kept has one
unfoldable pub text_form : List ℕ → LineForm
text_form text = unwrap_or (line_split text) end

-- the same of a slice
abbrev pub form_of : Bor (List ℕ) → LineForm
form_of text = text_form text.now

-- the lines with these texts
abbrev pub forms_of : List (Bor (List ℕ)) → List LineForm
forms_of texts = map form_of texts

-- names and arities
abbrev pub headers_of : List (Bor (List ℕ) × Bor (List ℕ)) → List (List ℕ × List ℕ)
headers_of headers = map (λ h. (h.0.now, h.1.now)) headers

-- words in a row
abbrev pub words_of : List (Bor (List ℕ)) → List (List ℕ)
words_of words = map (λ word. word.now) words
