-- How a line is read: it is cut at its spaces, and its words are judged from left to right. The forms and their texts, in
-- ModuleLine, relate whole lines; the laws that both agree stand in proofs/LineLaws.
use Rattle.std.specs.Prelude.{ℕ, ◌==◌, Bool, true, false, List, [], ◌∷◌, Option, Some, None, option_map, bytes_eq, codes, if◌then◌else◌}
use Rattle.term_core.specs.Names.{is_atom_text}
use Rattle.term_core.specs.PlainTerm.{integer_leaf, atom_leaf}
use Rattle.term_core.specs.TermForms.{is_bracketed, is_term_text, tree_of}
use Rattle.term_core.specs.Written.{WrittenTerm, is_integer_text}
use Rattle.term_core.specs.Text.Numbers.{is_number_text, number_value}
use Rattle.term_core.specs.Text.Cuts.{cut_at}
use Rattle.mod_text.specs.Sides.{paired, behind}
use Rattle.term_core.specs.Text.Steps.{◌>>=◌, text_tested, numbered_reading}
use Rattle.mod_text.specs.ModuleLine.{OperandForm, register, constant, InstrForm, move, add, sub, eq, less, jump, call, call_ext, ret, pget, pget_or, elem, print, yield, LineForm, title, header, label, instr, end, is_version_text, is_arity_text, operands_of, each_operand}

-- the version that digits write
abbrev pub version_reading : List ℕ → Option ℕ
version_reading text = if is_version_text text then Some (number_value text) else None

-- the arity that digits write
abbrev pub arity_reading : List ℕ → Option ℕ
arity_reading text = if is_arity_text text then Some (number_value text) else None

-- the digits of a register
abbrev pub register_reading : List ℕ → Option (List ℕ)
register_reading text = behind 36 (text_tested is_number_text) text

-- the written term with this text; a text that is no term's is kept as it is, in a leaf that is no integer
unfoldable pub term_read : List ℕ → WrittenTerm
term_read text = if is_term_text text then tree_of text else integer_leaf text

-- an operand that is a term; of a tuple or list its first bracket alone is looked at
abbrev pub constant_reading : List ℕ → Option OperandForm
constant_reading text =
    if is_atom_text text then Some (constant (atom_leaf text))
    else (if is_integer_text text then Some (constant (integer_leaf text)) else option_map (λ t. constant (term_read t)) (text_tested is_bracketed text))

-- an operand
abbrev pub operand_reading : List ℕ → Option OperandForm
operand_reading [] = None
operand_reading (c ∷ rest) = if c == 36 then option_map (λ digits. register digits) (text_tested is_number_text rest) else constant_reading (c ∷ rest)

-- two operands and a register
abbrev pub sum_reading : List ℕ → Option (OperandForm × (OperandForm × List ℕ))
sum_reading words = paired 32 operand_reading (paired 32 operand_reading register_reading) words

-- two operands and a label
abbrev pub branch_reading : List ℕ → Option (OperandForm × (OperandForm × List ℕ))
branch_reading words = paired 32 operand_reading (paired 32 operand_reading (text_tested is_atom_text)) words

-- a function of another module
abbrev pub external_reading : List ℕ → Option (List ℕ × (List ℕ × List ℕ))
external_reading text = paired 58 (text_tested is_atom_text) (numbered_reading 47 is_arity_text) text

-- `move`, behind its word
abbrev pub move_reading : List ℕ → Option InstrForm
move_reading rest = paired 32 operand_reading register_reading rest >>= λ p. Some (move p.0 p.1)

-- `add`, behind its word
abbrev pub add_reading : List ℕ → Option InstrForm
add_reading rest = sum_reading rest >>= λ x. Some (add x.0 x.1.0 x.1.1)

-- `sub`, behind its word
abbrev pub sub_reading : List ℕ → Option InstrForm
sub_reading rest = sum_reading rest >>= λ x. Some (sub x.0 x.1.0 x.1.1)

-- `eq`, behind its word
abbrev pub eq_reading : List ℕ → Option InstrForm
eq_reading rest = branch_reading rest >>= λ x. Some (eq x.0 x.1.0 x.1.1)

-- `less`, behind its word
abbrev pub less_reading : List ℕ → Option InstrForm
less_reading rest = branch_reading rest >>= λ x. Some (less x.0 x.1.0 x.1.1)

-- `jump`, behind its word
abbrev pub jump_reading : List ℕ → Option InstrForm
jump_reading rest = text_tested is_atom_text rest >>= λ target. Some (jump target)

-- `call`, behind its word
abbrev pub call_reading : List ℕ → Option InstrForm
call_reading rest = paired 32 (numbered_reading 47 is_arity_text) register_reading rest >>= λ p. Some (call p.0.0 p.0.1 p.1)

-- `call_ext`, behind its word
abbrev pub call_ext_reading : List ℕ → Option InstrForm
call_ext_reading rest = paired 32 external_reading register_reading rest >>= λ p. Some (call_ext p.0.0 p.0.1.0 p.0.1.1 p.1)

-- `ret`, behind its word
abbrev pub ret_reading : List ℕ → Option InstrForm
ret_reading rest = operand_reading rest >>= λ value. Some (ret value)

-- `pget`, behind its word
abbrev pub pget_reading : List ℕ → Option InstrForm
pget_reading rest = paired 32 (text_tested is_atom_text) register_reading rest >>= λ p. Some (pget p.0 p.1)

-- `pget_or`, behind its word
abbrev pub pget_or_reading : List ℕ → Option InstrForm
pget_or_reading rest = paired 32 (text_tested is_atom_text) (paired 32 operand_reading register_reading) rest >>= λ p. Some (pget_or p.0 p.1.0 p.1.1)

-- `elem`, behind its word
abbrev pub elem_reading : List ℕ → Option InstrForm
elem_reading rest = sum_reading rest >>= λ x. Some (elem x.0 x.1.0 x.1.1)

-- `print`, behind its word
abbrev pub print_reading : List ℕ → Option InstrForm
print_reading rest = operand_reading rest >>= λ value. Some (print value)

-- the instruction of this word
abbrev pub instr_reading : List ℕ → List ℕ → Option InstrForm
instr_reading word rest =
    if bytes_eq word (codes "move") then move_reading rest
    else (if bytes_eq word (codes "add") then add_reading rest
    else (if bytes_eq word (codes "sub") then sub_reading rest
    else (if bytes_eq word (codes "eq") then eq_reading rest
    else (if bytes_eq word (codes "less") then less_reading rest
    else (if bytes_eq word (codes "jump") then jump_reading rest
    else (if bytes_eq word (codes "call") then call_reading rest
    else (if bytes_eq word (codes "call_ext") then call_ext_reading rest
    else (if bytes_eq word (codes "ret") then ret_reading rest
    else (if bytes_eq word (codes "pget") then pget_reading rest
    else (if bytes_eq word (codes "pget_or") then pget_or_reading rest
    else (if bytes_eq word (codes "elem") then elem_reading rest
    else (if bytes_eq word (codes "print") then print_reading rest
    else None))))))))))))

-- the line of one word
abbrev pub lone_reading : List ℕ → Option LineForm
lone_reading word = if bytes_eq word (codes "yield") then Some (instr yield) else (if bytes_eq word (codes "end") then Some end else None)

-- the name of a label
abbrev pub label_reading : List ℕ → Option LineForm
label_reading rest = text_tested is_atom_text rest >>= λ name. Some (label name)

-- a module's name and version, as `m.1`
abbrev pub title_reading : List ℕ → Option LineForm
title_reading rest = numbered_reading 46 is_version_text rest >>= λ x. Some (title x.0 x.1)

-- a function's name and arity, as `main/0`, and whether `export` or `local` stands before them
abbrev pub header_reading : Bool → List ℕ → Option LineForm
header_reading exported rest = numbered_reading 47 is_arity_text rest >>= λ x. Some (header exported x.0 x.1)

-- an instruction as a line
abbrev pub instr_line_reading : List ℕ → List ℕ → Option LineForm
instr_line_reading word rest = option_map (λ i. instr i) (instr_reading word rest)

-- the line of this word, and of what stands behind it
abbrev pub keyed_reading : List ℕ → List ℕ → Option LineForm
keyed_reading word rest =
    if bytes_eq word (codes "label") then label_reading rest
    else (if bytes_eq word (codes "module") then title_reading rest
    else (if bytes_eq word (codes "export") then header_reading true rest
    else (if bytes_eq word (codes "local") then header_reading false rest
    else instr_line_reading word rest)))

-- a line that was cut at its first space
abbrev pub parts_reading : List ℕ → Option (List ℕ × List ℕ) → Option LineForm
parts_reading text None = lone_reading text
parts_reading text (Some parts) = keyed_reading parts.0 parts.1

-- the line with this text, whose tuples and lists were not looked into
abbrev pub line_split : List ℕ → Option LineForm
line_split text = parts_reading text (cut_at 32 text)

-- whether an operand that begins with a bracket is a term: what is kept of another text is no integer
abbrev pub is_sound_operand : OperandForm → Bool
is_sound_operand (constant (integer_leaf text)) = is_integer_text text
is_sound_operand _ = true

-- whether each operand of an instruction is that begins with a bracket
abbrev pub has_sound_operands : InstrForm → Bool
has_sound_operands i = each_operand is_sound_operand (operands_of i)

-- the same of a line
abbrev pub has_sound_terms : LineForm → Bool
has_sound_terms (instr i) = has_sound_operands i
has_sound_terms _ = true

-- the line, where each of its tuples and lists is a term
abbrev pub sound_reading : Option LineForm → Option LineForm
sound_reading None = None
sound_reading (Some line) = if has_sound_terms line then Some line else None

-- the line with this text
abbrev pub line_reading : List ℕ → Option LineForm
line_reading text = sound_reading (line_split text)
