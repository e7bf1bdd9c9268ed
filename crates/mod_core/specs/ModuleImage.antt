-- The image of an instance: a head of four words, four words a function, the code of the functions in order, and the images of the complex
-- constants in the order in which they occur in the code.
-- Source: this project's profile. The code builds it in one pass; places count words from the start of the block.
use Rattle.std.specs.Prelude.{◌≡◌, ◌≢◌, ◌<◌, ℕ, zero, suc, ◌+◌, ◌*◌, List, [], ◌∷◌, ◌++◌, length, map, take, slice_index, if◌then◌else◌}
use Rattle.std.specs.List.{flat_map}
use Rattle.term_core.specs.declared.atom.Mfa.{Mfa}
use Rattle.term_core.specs.declared.term.Term.TheVariants.{Atom}
use Rattle.term_core.specs.Image.{image_of, immediate_word, is_immediate}
use Rattle.term_core.specs.Plain.{plain}
use Rattle.term_core.specs.PlainTerm.{PlainTerm, term_words}
use Rattle.mod_core.specs.declared.code.Operand.{Operand}
use Rattle.mod_core.specs.declared.code.Operand.TheVariants.{Reg, Const}
use Rattle.mod_core.specs.declared.code.Instr.{Instr}
use Rattle.mod_core.specs.declared.code.Instr.TheVariants.{Move, Add, Sub, Eq, Less, Jump, Call, CallExt, Ret, Pget, PgetOr, Elem, Print, Yield}
use Rattle.mod_core.specs.declared.code.Function.{Function}
use Rattle.mod_core.specs.declared.code.Module.{Module}

-- ---- complex constants

-- the complex constant of an operand, if it is one
abbrev pub operand_constants : Operand → List PlainTerm
operand_constants (Reg register) = []
operand_constants (Const term) = if is_immediate (plain term) then [] else plain term ∷ []

-- the complex constants of an instruction, in order
abbrev pub instr_constants : Instr → List PlainTerm
instr_constants (Move from to) = operand_constants from
instr_constants (Add a b to) = operand_constants a ++ operand_constants b
instr_constants (Sub a b to) = operand_constants a ++ operand_constants b
instr_constants (Eq a b target) = operand_constants a ++ operand_constants b
instr_constants (Less a b target) = operand_constants a ++ operand_constants b
instr_constants (Ret value) = operand_constants value
instr_constants (PgetOr key other to) = operand_constants other
instr_constants (Elem index from to) = operand_constants index ++ operand_constants from
instr_constants (Print value) = operand_constants value
instr_constants _ = []

-- the complex constants of code, in order
abbrev pub code_constants : List Instr → List PlainTerm
code_constants code = flat_map instr_constants code

-- the complex constants of functions, in order
abbrev pub constants_of : List Function → List PlainTerm
constants_of fs = flat_map (λ f. code_constants f.code) fs

-- the images of constants, one behind another
abbrev pub constants_words : List PlainTerm → List ℕ
constants_words terms = flat_map image_of terms

-- how many words these have
abbrev pub constants_len : List PlainTerm → ℕ
constants_len [] = 0
constants_len (t ∷ terms) = term_words t + constants_len terms

-- ---- instructions

-- the word of a register
abbrev pub register_word : ℕ → ℕ
register_word register = register * 16 + 6

-- the word of an operand; a complex constant is told by the place of its image
abbrev pub operand_word : ℕ → Operand → ℕ
operand_word place (Reg register) = register_word register
operand_word place (Const term) = if is_immediate (plain term) then immediate_word term else place * 16 + 5

-- the words of two operands, the first complex constant of which has its image at a place
abbrev pub operands_words : ℕ → Operand → Operand → List ℕ
operands_words place a b = operand_word place a ∷ operand_word (place + constants_len (operand_constants a)) b ∷ []

-- the word of an external function's name
abbrev pub name_word : Mfa → ℕ
name_word to = (to.«module».0 * 4096 + to.name.0) * 16 + to.arity

-- the words of an instruction, whose target is a place already, and the first complex constant of which has its image at a place: its number and its operands
abbrev pub instr_words : ℕ → Instr → List ℕ
instr_words place (Move from to) = 1 ∷ operand_word place from ∷ register_word to ∷ []
instr_words place (Add a b to) = 2 ∷ (operands_words place a b ++ register_word to ∷ [])
instr_words place (Sub a b to) = 3 ∷ (operands_words place a b ++ register_word to ∷ [])
instr_words place (Eq a b target) = 4 ∷ (operands_words place a b ++ target ∷ [])
instr_words place (Less a b target) = 5 ∷ (operands_words place a b ++ target ∷ [])
instr_words place (Jump target) = 6 ∷ target ∷ []
instr_words place (Call function at) = 7 ∷ function ∷ register_word at ∷ []
instr_words place (CallExt to at) = 8 ∷ name_word to ∷ register_word at ∷ []
instr_words place (Ret value) = 9 ∷ operand_word place value ∷ []
instr_words place (Pget key to) = 10 ∷ immediate_word (Atom key) ∷ register_word to ∷ []
instr_words place (PgetOr key other to) = 11 ∷ immediate_word (Atom key) ∷ operand_word place other ∷ register_word to ∷ []
instr_words place (Elem index from to) = 12 ∷ (operands_words place index from ++ register_word to ∷ [])
instr_words place (Print value) = 13 ∷ operand_word place value ∷ []
instr_words place Yield = 14 ∷ []

-- how many words an instruction has, wherever its constants stand
abbrev pub instr_len : Instr → ℕ
instr_len i = length (instr_words 0 i)

-- how many words instructions have
abbrev pub code_len : List Instr → ℕ
code_len [] = 0
code_len (i ∷ is) = instr_len i + code_len is

-- the words of instructions whose targets are places already, and the first complex constant of which has its image at a place
abbrev pub code_words : ℕ → List Instr → List ℕ
code_words place [] = []
code_words place (i ∷ is) = instr_words place i ++ code_words (place + constants_len (instr_constants i)) is

-- an instruction, with a place for the number of its target
abbrev pub placed : (ℕ → ℕ) → Instr → Instr
placed place (Eq a b target) = Eq a b (place target)
placed place (Less a b target) = Less a b (place target)
placed place (Jump target) = Jump (place target)
placed place instr = instr

-- the place of the instruction with a number, or of the end, in code that begins at a place
abbrev pub place_in : ℕ → List Instr → ℕ → ℕ
place_in start code number = start + code_len (take number code)

-- code that begins at a place, its targets places
abbrev pub placed_code : ℕ → List Instr → List Instr
placed_code start code = map (placed (place_in start code)) code

-- what a function does past its last instruction
abbrev pub return_ok : Instr
return_ok = Ret (Const (Atom (record { 0 = 2 })))

-- ---- functions

-- the words of a function's code that begins at a place, and whose first complex constant has its image at another, with the return at its end
abbrev pub function_words : ℕ → ℕ → Function → List ℕ
function_words start constants f = code_words constants (placed_code start f.code) ++ instr_words constants return_ok

-- how many words the code of a function has, with the return at its end
abbrev pub function_len : Function → ℕ
function_len f = code_len f.code + instr_len return_ok

-- a function in the table of an instance: name, arity and export, entry word, place of its first instruction
abbrev pub function_head : Function → ℕ → List ℕ
function_head f place = f.name.0 ∷ (f.arity * 2 + (if f.exported then 1 else 0)) ∷ 0 ∷ place ∷ []

-- the table of functions, whose code begins at a place
abbrev pub function_heads : ℕ → List Function → List ℕ
function_heads place [] = []
function_heads place (f ∷ fs) = function_head f place ++ function_heads (place + function_len f) fs

-- the code of functions in order, which begins at a place, and whose first complex constant has its image at another
abbrev pub functions_words : ℕ → ℕ → List Function → List ℕ
functions_words place constants [] = []
functions_words place constants (f ∷ fs) = function_words place constants f ++ functions_words (place + function_len f) (constants + constants_len (code_constants f.code)) fs

-- the place of the first function's code in a module of these functions
abbrev pub code_start : List Function → ℕ
code_start fs = 4 + 4 * length fs

-- the place of the first instruction of a function, where the code of the first one begins at a place
abbrev pub place_from : ℕ → List Function → ℕ → ℕ
place_from place [] i = place
place_from place (f ∷ fs) zero = place
place_from place (f ∷ fs) (suc i) = place_from (place + function_len f) fs i

-- the place behind the code of the last function, where the images of the constants begin
abbrev pub constants_start : List Function → ℕ
constants_start fs = place_from (code_start fs) fs (length fs)

-- the image that a module has before an instance of it has a serial
abbrev pub module_image : Module → List ℕ
module_image m =
    (0 ∷ m.name.0 ∷ m.version ∷ length m.functions ∷ [])
    ++ (function_heads (code_start m.functions) m.functions
    ++ (functions_words (code_start m.functions) (constants_start m.functions) m.functions
    ++ constants_words (constants_of m.functions)))

-- the place of the first instruction of a function of a module
abbrev pub function_place : Module → ℕ → ℕ
function_place m i = place_from (code_start m.functions) m.functions i

-- ---- words that are an image

-- a place of an image that holds neither the serial nor the entry word of a function
pub record IsFixedPlace (m : Module) (at : ℕ) : Type 0 where
  pub within : at < length (module_image m)
  pub no_serial : at ≢ 0
  pub no_entry : (i : ℕ) → i < length m.functions → at ≢ 4 + 4 * i + 2

-- the words are the image of a module, whatever serial and entry words they carry
pub record IsImageOfModule (m : Module) (words : List ℕ) : Type 0 where
  pub whole : length words ≡ length (module_image m)
  pub same : (at : ℕ) → IsFixedPlace m at → slice_index words at ≡ slice_index (module_image m) at
