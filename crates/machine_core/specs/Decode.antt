-- The instruction that four words stand for: any words do, so that reading needs no premise. A complex constant is told by the place of its image.
-- What an instruction is written as reads back as it, where its constants stand at their places. Source: this project's layout of an image.
use Rattle.std.specs.Prelude.{ℕ, ◌/◌, ◌%◌, ◌==◌, ◌+◌, nat_lt, List, slice_index, if◌then◌else◌}
use Rattle.term_core.specs.declared.atom.AtomId.{AtomId}
use Rattle.term_core.specs.declared.atom.Mfa.{Mfa}
use Rattle.term_core.specs.Image.{term_at, term_of_word}
use Rattle.term_core.specs.Plain.{term_of}
use Rattle.mod_core.specs.declared.code.Operand.{Operand}
use Rattle.mod_core.specs.declared.code.Operand.TheVariants.{Reg, Const}
use Rattle.mod_core.specs.declared.code.Instr.{Instr}
use Rattle.mod_core.specs.declared.code.Instr.TheVariants as instrs
use Rattle.machine_core.specs.declared.op.Source.{Source}
use Rattle.machine_core.specs.declared.op.Source.TheVariants.{Register, Immediate, Constant}
use Rattle.machine_core.specs.declared.op.Op.{Op}
use Rattle.machine_core.specs.declared.op.Op.TheVariants.{Move, Add, Sub, Eq, Less, Jump, Call, CallExt, Ret, Pget, PgetOr, Elem, Print, Yield}

-- the register of a word
abbrev pub register_of_word : ℕ → ℕ
register_of_word word = word / 16 % 16

-- the number of a word: a place in the image, or that of a function
abbrev pub number_of_word : ℕ → ℕ
number_of_word word = word % 4294967296

-- the source of a word: with tag 6 a register, with tag 5 the place of a constant, else an integer or an atom
abbrev pub source_of_word : ℕ → Source
source_of_word word =
    if word % 16 == 6 then Register (register_of_word word)
    else if word % 16 == 5 then Constant (number_of_word (word / 16))
    else Immediate (term_of_word word)

-- the atom of a word
abbrev pub atom_of_word : ℕ → AtomId
atom_of_word word = record { 0 = number_of_word (word / 16) }

-- the name of an external function: arity, name and module from the low bits on
abbrev pub name_of_word : ℕ → Mfa
name_of_word word =
    record {
      «module» = record { 0 = word / 65536 % 4096 };
      name = record { 0 = word / 16 % 4096 };
      arity = word % 16;
    }

-- how many words an instruction with this number has
abbrev pub len_of_number : ℕ → ℕ
len_of_number number =
    if number == 1 then 3
    else if number == 2 then 4
    else if number == 3 then 4
    else if number == 4 then 4
    else if number == 5 then 4
    else if number == 7 then 3
    else if number == 8 then 3
    else if number == 10 then 3
    else if number == 11 then 4
    else if number == 12 then 4
    else if number == 14 then 1
    else 2

-- of the instructions that neither compute, test nor call: one that reads, prints or returns a value, or a yield
abbrev pub value_op : ℕ → ℕ → ℕ → ℕ → Op
value_op number first second third =
    if number == 10 then Pget (atom_of_word first) (register_of_word second)
    else if number == 11 then PgetOr (atom_of_word first) (source_of_word second) (register_of_word third)
    else if number == 12 then Elem (source_of_word first) (source_of_word second) (register_of_word third)
    else if number == 13 then Print (source_of_word first)
    else if number == 14 then Yield
    else Ret (source_of_word first)

-- the instruction with this number and these words behind it; a target is a place
abbrev pub op_of_words : ℕ → ℕ → ℕ → ℕ → Op
op_of_words number first second third =
    if number == 1 then Move (source_of_word first) (register_of_word second)
    else if number == 2 then Add (source_of_word first) (source_of_word second) (register_of_word third)
    else if number == 3 then Sub (source_of_word first) (source_of_word second) (register_of_word third)
    else if number == 4 then Eq (source_of_word first) (source_of_word second) (number_of_word third)
    else if number == 5 then Less (source_of_word first) (source_of_word second) (number_of_word third)
    else if number == 6 then Jump (number_of_word first)
    else if number == 7 then Call (number_of_word first) (register_of_word second)
    else if number == 8 then CallExt (name_of_word first) (register_of_word second)
    else value_op number first second third

-- a word of the instruction at a place, counted from its number; 0 past its last word
abbrev pub instr_word : List ℕ → ℕ → ℕ → ℕ
instr_word words place at = if nat_lt at (len_of_number (slice_index words place)) then slice_index words (place + at) else 0

-- the instruction at a place
abbrev pub op_at : List ℕ → ℕ → Op
op_at words place = op_of_words (slice_index words place) (instr_word words place 1) (instr_word words place 2) (instr_word words place 3)

-- the operand that a source is in an instance with these words
abbrev pub operand_shown : List ℕ → Source → Operand
operand_shown words (Register register) = Reg register
operand_shown words (Immediate term) = Const term
operand_shown words (Constant place) = Const (term_of (term_at words place))

-- the instruction that the machine's own form of it stands for, in an instance with these words
abbrev pub instr_shown : List ℕ → Op → Instr
instr_shown words (Move from to) = instrs.Move (operand_shown words from) to
instr_shown words (Add a b to) = instrs.Add (operand_shown words a) (operand_shown words b) to
instr_shown words (Sub a b to) = instrs.Sub (operand_shown words a) (operand_shown words b) to
instr_shown words (Eq a b target) = instrs.Eq (operand_shown words a) (operand_shown words b) target
instr_shown words (Less a b target) = instrs.Less (operand_shown words a) (operand_shown words b) target
instr_shown words (Jump target) = instrs.Jump target
instr_shown words (Call function at) = instrs.Call function at
instr_shown words (CallExt to at) = instrs.CallExt to at
instr_shown words (Ret value) = instrs.Ret (operand_shown words value)
instr_shown words (Pget key to) = instrs.Pget key to
instr_shown words (PgetOr key other to) = instrs.PgetOr key (operand_shown words other) to
instr_shown words (Elem index from to) = instrs.Elem (operand_shown words index) (operand_shown words from) to
instr_shown words (Print value) = instrs.Print (operand_shown words value)
instr_shown words Yield = instrs.Yield
