-- What the code looks up when the targets and the calls of a module are settled.
use Rattle.std.specs.Prelude.{◌≡◌, ℕ, ◌+◌, ◌<◌, Bool, true, false, List, [], ◌∷◌, Option, Some, None, option_map, bytes_eq, if◌then◌else◌}
use Rattle.std.specs.Borrow.{Bor}
use Rattle.std.specs.declared.hash.FoldHasher.{FoldHasher}
use Rattle.std.specs.declared.hash.BuildHasherDefault.{BuildHasherDefault}
use Rattle.std.specs.HashMap.{HashMap, get_by}
use Rattle.mod_core.specs.declared.code.Instr.{Instr}
use Rattle.mod_text.specs.declared.fault.FinishFault.{FinishFault}
use Rattle.mod_text.specs.declared.fault.FinishFault.TheVariants.{Missing, NoMemory}
use Rattle.mod_text.specs.ModuleLine.{InstrForm, LineForm, header, label, instr}
use Rattle.mod_text.specs.ModuleValue.{FunctionForm, HeaderForm, body_of, label_number, is_settled, instr_in, earlier}

-- labels with the numbers of their instructions
abbrev pub Places : Type 0
Places = HashMap (Bor (List ℕ)) ℕ (BuildHasherDefault FoldHasher)

-- the number that a label has
abbrev pub label_place : Places → List ℕ → Option ℕ
label_place places wanted = get_by (λ name. bytes_eq wanted name.now) places

-- the labels are those of the function with this body
abbrev pub ArePlaces : Places → List LineForm → Type 0
ArePlaces places body = (wanted : List ℕ) → label_place places wanted ≡ label_number wanted body

-- a label more has this number, unless it had one
abbrev pub HasPlace : Places → Places → List ℕ → ℕ → Type 0
HasPlace old new name number = (wanted : List ℕ) → label_place new wanted ≡ earlier (label_place old wanted) (if bytes_eq name wanted then Some number else None)

-- the number that a line gives to a label, behind so many instructions
abbrev pub label_at : ℕ → List ℕ → LineForm → Option ℕ
label_at number wanted (label name) = if bytes_eq name wanted then Some number else None
label_at number wanted _ = None

-- the labels after a line, behind so many instructions
abbrev pub TakesLine : Places → Places → ℕ → LineForm → Type 0
TakesLine old new number line = (wanted : List ℕ) → label_place new wanted ≡ earlier (label_place old wanted) (label_at number wanted line)

-- how many instructions are before the next line
abbrev pub number_after : ℕ → LineForm → ℕ
number_after number (instr i) = number + 1
number_after number _ = number

-- the instruction that is written so, where its label or its local function is there
abbrev pub settled_instr : List (List ℕ) → List HeaderForm → List LineForm → InstrForm → Option Instr
settled_instr names headers body i = if is_settled headers body i then Some (instr_in names headers body i) else None

-- the function that a line begins, before these
abbrev pub function_at : LineForm → List LineForm → List FunctionForm
function_at (header exported name arity) lines = record { exported = exported; name = name; arity = arity; body = body_of lines } ∷ []
function_at _ lines = []

-- so many lines later
abbrev pub later_by : ℕ → Option ℕ → Option ℕ
later_by lines number = option_map (λ n. lines + n) number

-- what a refusal says: the number of the line that is not settled; want of memory is free
abbrev pub IsUnsettled : Option ℕ → FinishFault → Type 0
IsUnsettled number (Missing found) = number ≡ Some found
IsUnsettled number NoMemory = Unit {0}

-- that number is below a bound
abbrev pub IsUnsettledBelow : ℕ → FinishFault → Type 0
IsUnsettledBelow bound (Missing found) = found < bound
IsUnsettledBelow bound NoMemory = Unit {0}

-- labels and instructions are the lines of a function's body
abbrev pub is_body_line : LineForm → Bool
is_body_line (label name) = true
is_body_line (instr i) = true
is_body_line _ = false

-- a fault of a line that stands so many lines later
abbrev pub IsLater : ℕ → FinishFault → FinishFault → Type 0
IsLater lines (Missing number) later = later ≡ Missing (lines + number)
IsLater lines NoMemory later = later ≡ NoMemory
