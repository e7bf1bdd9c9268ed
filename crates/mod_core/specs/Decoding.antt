-- How the code reads an image: what it takes a word for, and what holds while it goes over the words of a module.
-- A module is read only where its own image is what was read, so these say no more than that the image of each module is read as that module.
use Rattle.std.specs.Prelude.{◌≡◌, ℕ, ◌+◌, ◌-◌, ◌*◌, ◌/◌, ◌%◌, ◌<◌, ◌≤◌, ◌==◌, ◌&&◌, ◌||◌, nat_lt, nat_le, Bool, true, false, if◌then◌else◌, IsTrue, Some, Result, Ok, Err, List, length, map, take, slice_get, slice_index, count_by}
use Rattle.std.specs.List.{range_with_len}
use Rattle.term_core.specs.declared.atom.AtomId.{AtomId}
use Rattle.term_core.specs.declared.atom.Mfa.{Mfa}
use Rattle.term_core.specs.declared.image_fault.ImageFault.{ImageFault}
use Rattle.term_core.specs.declared.image_fault.ImageFault.TheVariants.{NoMemory}
use Rattle.term_core.specs.declared.term.Term.{Term}
use Rattle.term_core.specs.Image.{IsImageAt, immediate_word, is_immediate}
use Rattle.term_core.specs.Plain.{plain}
use Rattle.mod_core.specs.declared.code.Operand.{Operand}
use Rattle.mod_core.specs.declared.code.Operand.TheVariants.{Reg, Const}
use Rattle.mod_core.specs.declared.code.Instr.{Instr}
use Rattle.mod_core.specs.declared.code.Instr.TheVariants.{Move, Add, Sub, Eq, Less, Jump, Call, CallExt, Ret, Pget, PgetOr, Elem, Print, Yield}
use Rattle.mod_core.specs.declared.code.Function.{Function}
use Rattle.mod_core.specs.declared.code.Module.{Module}
use Rattle.mod_core.specs.declared.code_reading.Row.{Row}
use Rattle.mod_core.specs.Module.{IsConstant, IsModule}
use Rattle.mod_core.specs.ModuleImage.{code_constants, constants_len, constants_of, function_place, module_image, place_in, placed_code, register_word}

-- the call succeeded with this, or memory was refused
abbrev pub ReadsWords : {T : Type 0} → Result T ImageFault → Type 0 → Type 0
ReadsWords (Ok x) P = P
ReadsWords (Err e) P = e ≡ NoMemory

-- the call gave a value of which this holds, or memory was refused
abbrev pub ReadsTo : {T : Type 0} → Result T ImageFault → (T → Type 0) → Type 0
ReadsTo (Ok x) P = P x
ReadsTo (Err e) P = e ≡ NoMemory

-- ---- the serial and the entry words

-- whether an image with so many functions has its serial or an entry word at a place
abbrev pub is_mark : ℕ → ℕ → Bool
is_mark count at = at == 0 || (nat_le 6 at && ((at - 6) % 4 == 0 && nat_lt ((at - 6) / 4) count))

-- a copy of words in which the serial and the entry words are 0
pub record IsUnmarked (words copy : List ℕ) : Type 0 where
  pub long : length copy ≡ length words
  pub each : (at : ℕ) → at < length words → slice_index copy at ≡ (if is_mark (slice_index words 3) at then 0 else slice_index words at)

-- ---- instructions

-- the number in a word, of 32 bits
abbrev pub number_from : ℕ → ℕ
number_from word = word % 4294967296

-- the atom in a word
abbrev pub atom_from : ℕ → AtomId
atom_from word = record { 0 = number_from (word / 16) }

-- the name of an external function in a word
abbrev pub name_from : ℕ → Mfa
name_from word = record { «module» = record { 0 = number_from (word / 16 / 4096) }; name = record { 0 = word / 16 % 4096 }; arity = word % 16 }

-- the word of a constant, by whether it is immediate
abbrev pub IsConstantWord : List ℕ → ℕ → Term → Bool → Type 0
IsConstantWord words word term true = (word ≡ immediate_word term) × IsConstant term
IsConstantWord words word term false = (word % 16 ≡ 5) × IsImageAt words (word / 16) (plain term)

-- a word that stands for an operand, in the image that these words are
abbrev pub IsWordOf : List ℕ → ℕ → Operand → Type 0
IsWordOf words word (Reg register) = (word ≡ register_word register) × (register < 4294967296)
IsWordOf words word (Const term) = IsConstantWord words word term (is_immediate (plain term))

-- whether the instruction with a number has an operand in its second word
abbrev pub has_first : ℕ → Bool
has_first number = (nat_lt 0 number && nat_lt number 6) || (number == 9 || (number == 12 || number == 13))

-- and in its third
abbrev pub has_second : ℕ → Bool
has_second number = (nat_lt 1 number && nat_lt number 6) || (number == 11 || number == 12)

-- whether it has an operand
abbrev pub has_operand : ℕ → Bool
has_operand number = has_first number || has_second number

-- whether it has two
abbrev pub has_both : ℕ → Bool
has_both number = has_first number && has_second number

-- the instruction with this number, these operands and these further words
abbrev pub instr_read_of : ℕ → Operand → Operand → ℕ → ℕ → ℕ → Instr
instr_read_of number a b first second third =
    if number == 1 then Move a (number_from (second / 16))
    else if number == 2 then Add a b (number_from (third / 16))
    else if number == 3 then Sub a b (number_from (third / 16))
    else if number == 4 then Eq a b (number_from third)
    else if number == 5 then Less a b (number_from third)
    else if number == 6 then Jump (number_from first)
    else if number == 7 then Call (number_from first) (number_from (second / 16))
    else if number == 8 then CallExt (name_from first) (number_from (second / 16))
    else if number == 9 then Ret a
    else if number == 10 then Pget (atom_from first) (number_from (second / 16))
    else if number == 11 then PgetOr (atom_from first) b (number_from (third / 16))
    else if number == 12 then Elem a b (number_from (third / 16))
    else if number == 13 then Print a
    else Yield

-- the instruction at a place, with these operands
abbrev pub instr_decoded : List ℕ → ℕ → Operand → Operand → Instr
instr_decoded words at a b = instr_read_of (slice_index words at) a b (slice_index words (at + 1)) (slice_index words (at + 2)) (slice_index words (at + 3))

-- an instruction begins at a place, and these are its operands, if it has them
pub record AreOperandsAt (words : List ℕ) (at : ℕ) (a b : Operand) : Type 0 where
  pub some : 0 < slice_index words at
  pub known : slice_index words at < 15
  pub first : IsTrue (has_first (slice_index words at)) → IsWordOf words (slice_index words (at + 1)) a
  pub second : IsTrue (has_second (slice_index words at)) → IsWordOf words (slice_index words (at + 2)) b

-- ---- functions

-- the words are the image of this module, which has this function with a number
pub record IsFunctionIn (words : List ℕ) (m : Module) (number : ℕ) (f : Function) : Type 0 where
  pub is_module : IsModule m
  pub image : words ≡ module_image m
  pub found : slice_get m.functions number ≡ Some f

-- where the code of a function has ended, as its image tells: at the next function, or where so many words are left
abbrev pub code_end : List ℕ → ℕ → ℕ → ℕ
code_end words number left = if nat_lt (number + 1) (slice_index words 3) then slice_index words (4 + 4 * (number + 1) + 3) else left

-- so many words are left of an image without those of the constants of its first functions
pub record IsLeft (m : Module) (number left : ℕ) : Type 0 where
  pub whole : left + constants_len (constants_of (take number m.functions)) ≡ length (module_image m)

-- what has been read of a function's code: its first instructions, with their targets' places, and the place of each
pub record IsRow (m : Module) (number : ℕ) (f : Function) (row : Row) : Type 0 where
  pub count : ℕ
  pub within : count ≤ length f.code
  pub instrs : row.instrs.items ≡ take count (placed_code (function_place m number) f.code)
  pub places : row.places ≡ map (place_in (function_place m number) f.code) (range_with_len 0 count)
  pub place : row.place ≡ place_in (function_place m number) f.code count
  pub left : row.left + (constants_len (constants_of (take number m.functions)) + constants_len (code_constants (take count f.code))) ≡ length (module_image m)

-- all of it has been read, and the place of its end stands with the others
pub record IsWholeRow (m : Module) (number : ℕ) (f : Function) (row : Row) : Type 0 where
  pub instrs : row.instrs.items ≡ placed_code (function_place m number) f.code
  pub places : row.places ≡ map (place_in (function_place m number) f.code) (range_with_len 0 (length f.code + 1))
  pub left : row.left + (constants_len (constants_of (take number m.functions)) + constants_len (code_constants f.code)) ≡ length (module_image m)

-- the number of the instruction at a place, in a table of places: how many are before it
abbrev pub number_at : List ℕ → ℕ → ℕ
number_at places place = number_from (count_by (λ p. nat_lt p place) places)
