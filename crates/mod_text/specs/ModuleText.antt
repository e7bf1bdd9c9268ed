-- The text of a module: a relation on whole texts, with the names before and after it; and the fault of every other text, which
-- is that of its first faulty line, or else of the first line whose label or local function is lacking. The code reads line by line.
-- Lines are counted from 0, the line of the title. Source: this project's module text.
use Rattle.std.specs.Prelude.{◌≡◌, ℕ, ◌+◌, List, [], ◌∷◌, ◌++◌, length, Some, None, codes, not, true, ◌==◌}
use Rattle.std.specs.List.{list_all}
use Rattle.mod_core.specs.declared.code.Module.{Module}
use Rattle.mod_text.specs.declared.fault.LineFault.{LineFault}
use Rattle.mod_text.specs.declared.fault.LineFault.TheVariants as faults
use Rattle.mod_text.specs.declared.fault.ModFault.{ModFault}
use Rattle.mod_text.specs.declared.fault.ModFault.TheVariants as mod_faults
use Rattle.mod_text.specs.ModuleLine.{LineForm, end, line_written, lines_written}
use Rattle.mod_text.specs.LineFaults.{last_line, names_after, IsNext, HasLineFault}
use Rattle.mod_text.specs.ModuleValue.{module_of, unsettled_line}

-- each of these lines may follow the names and lines before it, and passes no limit
abbrev pub FollowOn : List (List ℕ) → List LineForm → List LineForm → Type 0
FollowOn names before [] = Unit {0}
FollowOn names before (line ∷ lines) = IsNext names before (line_written line) line × FollowOn (names_after names line) (before ++ line ∷ []) lines

-- the names after lines
abbrev pub names_behind : List (List ℕ) → List LineForm → List (List ℕ)
names_behind names [] = names
names_behind names (line ∷ lines) = names_behind (names_after names line) lines

-- under the names before, these lines stand in a row from the title on, and none has a fault
abbrev pub AreModuleLines : List (List ℕ) → List LineForm → Type 0
AreModuleLines before lines = FollowOn before [] lines

-- under the names before, the bytes are the text of this module, and after it the names are these
pub record ModuleText (before : List (List ℕ)) (bytes : List ℕ) (m : Module) (after : List (List ℕ)) : Type 0 where
  pub lines : List LineForm
  pub spelled : bytes ≡ lines_written lines
  pub faultless : AreModuleLines before lines
  pub closed : last_line lines ≡ Some end
  pub settled : unsettled_line lines ≡ None
  pub named : after ≡ names_behind before lines
  pub value : m ≡ module_of after lines

-- ---- faults

-- no line feed is among the bytes
abbrev pub IsUnended : List ℕ → Type 0
IsUnended bytes = list_all (λ byte. not (byte == 10)) bytes ≡ true

-- what is wrong with the line at the front of these bytes, behind these names and lines
pub data FaultAtFront (names : List (List ℕ)) (lines : List LineForm) (bytes : List ℕ) : LineFault → Type 0 where
  -- it has no line feed behind it; a text of no bytes has one such line
  unended : IsUnended bytes → ((bytes ≡ []) → lines ≡ []) → FaultAtFront names lines bytes faults.Syntax
  -- the text stops behind it, and it is not `end`
  stops : (text : List ℕ) → IsUnended text → bytes ≡ text ++ 10 ∷ [] → (text ≡ codes "end" → ⊥) → FaultAtFront names lines bytes faults.Syntax
  -- the text goes on behind it, or it is `end`; it is the text of no line that may stand there, or its line passes a limit
  faulty : (text rest : List ℕ) (fault : LineFault) → IsUnended text → bytes ≡ text ++ 10 ∷ rest → (rest ≡ [] → text ≡ codes "end") → HasLineFault names lines text fault → FaultAtFront names lines bytes fault

-- this line is the first with a fault
pub record FirstFault (before : List (List ℕ)) (bytes : List ℕ) (number : ℕ) (fault : LineFault) : Type 0 where
  pub lines : List LineForm
  pub rest : List ℕ
  pub cut : bytes ≡ lines_written lines ++ rest
  pub faultless : AreModuleLines before lines
  pub counted : number ≡ length lines
  pub here : FaultAtFront (names_behind before lines) lines rest fault

-- no line has a fault, and this is the first whose label is not one of its function, or whose local function is not one of the module
pub record MissingAt (before : List (List ℕ)) (bytes : List ℕ) (number : ℕ) : Type 0 where
  pub lines : List LineForm
  pub spelled : bytes ≡ lines_written lines
  pub faultless : AreModuleLines before lines
  pub closed : last_line lines ≡ Some end
  pub missing : unsettled_line lines ≡ Some number

-- the fault of a module's text whose first line has a number, by the fault of its line
abbrev pub mod_fault : ℕ → LineFault → ModFault
mod_fault line faults.Syntax = mod_faults.Syntax line
mod_fault line faults.Register = mod_faults.Register line
mod_fault line faults.Int = mod_faults.Int line
mod_fault line faults.Term = mod_faults.Term line
mod_fault line faults.Names = mod_faults.Names line
mod_fault line faults.TooManyFunctions = mod_faults.TooManyFunctions line
mod_fault line faults.TooLong = mod_faults.TooLong line
mod_fault line faults.Duplicate = mod_faults.Duplicate line
mod_fault line faults.NoMemory = mod_faults.NoMemory

-- what a fault says of the bytes, under the names before, where the title is the line of this number
abbrev pub HasModFault : List (List ℕ) → List ℕ → ℕ → ModFault → Type 0
HasModFault before bytes first (mod_faults.Syntax line) = (number : ℕ) × (line ≡ first + number) × FirstFault before bytes number faults.Syntax
HasModFault before bytes first (mod_faults.Label line) = (number : ℕ) × (line ≡ first + number) × MissingAt before bytes number
HasModFault before bytes first (mod_faults.TooManyFunctions line) = (number : ℕ) × (line ≡ first + number) × FirstFault before bytes number faults.TooManyFunctions
HasModFault before bytes first (mod_faults.TooLong line) = (number : ℕ) × (line ≡ first + number) × FirstFault before bytes number faults.TooLong
HasModFault before bytes first (mod_faults.Duplicate line) = (number : ℕ) × (line ≡ first + number) × FirstFault before bytes number faults.Duplicate
HasModFault before bytes first (mod_faults.Register line) = (number : ℕ) × (line ≡ first + number) × FirstFault before bytes number faults.Register
HasModFault before bytes first (mod_faults.Int line) = (number : ℕ) × (line ≡ first + number) × FirstFault before bytes number faults.Int
HasModFault before bytes first (mod_faults.Term line) = (number : ℕ) × (line ≡ first + number) × FirstFault before bytes number faults.Term
HasModFault before bytes first (mod_faults.Names line) = (number : ℕ) × (line ≡ first + number) × FirstFault before bytes number faults.Names
HasModFault before bytes first mod_faults.NoMemory = Unit {0}
