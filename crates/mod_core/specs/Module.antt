-- Which modules are modules: registers, arguments, targets, arities, versions, sizes and terms within the limits.
-- Source: this project's call machine; the limits are its profile.
use Rattle.std.specs.Prelude.{◌≡◌, ℕ, ◌+◌, ◌<◌, ◌≤◌, List, length, slice_get, Some, All, IsSomeAnd}
use Rattle.term_core.specs.declared.atom.Mfa.{Mfa}
use Rattle.term_core.specs.declared.names.TheConstants.{MOST_NAMES}
use Rattle.term_core.specs.declared.term.Term.{Term}
use Rattle.term_core.specs.declared.term_text.TheConstants.{MOST_WORDS}
use Rattle.term_core.specs.Plain.{plain}
use Rattle.term_core.specs.PlainTerm.{EachLeaf, term_words}
use Rattle.term_core.specs.Written.{IsTermInteger}
use Rattle.mod_core.specs.declared.code.TheConstants.{REGISTERS, MOST_ARGUMENTS, GREATEST_VERSION, MOST_FUNCTIONS, LONGEST_IMAGE}
use Rattle.mod_core.specs.declared.code.Operand.{Operand}
use Rattle.mod_core.specs.declared.code.Operand.TheVariants.{Reg, Const}
use Rattle.mod_core.specs.declared.code.Instr.{Instr}
use Rattle.mod_core.specs.declared.code.Instr.TheVariants.{Move, Add, Sub, Eq, Less, Jump, Call, CallExt, Ret, Pget, PgetOr, Elem, Print, Yield}
use Rattle.mod_core.specs.declared.code.Function.{Function}
use Rattle.mod_core.specs.declared.code.Module.{Module}
use Rattle.mod_core.specs.ModuleImage.{module_image}

-- a term of at most 64 words, each of whose atoms is one of 4,096
pub record IsConstant (term : Term) : Type 0 where
  pub leaves : EachLeaf IsTermInteger (λ atom. atom < MOST_NAMES) (plain term)
  pub short : term_words (plain term) ≤ MOST_WORDS

-- a register of a frame, or a constant
abbrev pub IsOperand : Operand → Type 0
IsOperand (Reg register) = register < REGISTERS
IsOperand (Const term) = IsConstant term

-- the name of a function: atoms of a table of names, and at most 15 arguments
pub record IsFunctionName (to : Mfa) : Type 0 where
  pub module_named : to.«module».0 < MOST_NAMES
  pub name_named : to.name.0 < MOST_NAMES
  pub arity : to.arity ≤ MOST_ARGUMENTS

-- so many arguments stand in registers from this one on, which gets the value
pub record IsCallPlace (at arity : ℕ) : Type 0 where
  pub back : at < REGISTERS
  pub arguments : at + arity ≤ REGISTERS

-- an instruction of a function with code of this length, in a module with these functions
abbrev pub IsInstr : List Function → ℕ → Instr → Type 0
IsInstr fs len (Move from to) = IsOperand from × (to < REGISTERS)
IsInstr fs len (Add a b to) = IsOperand a × IsOperand b × (to < REGISTERS)
IsInstr fs len (Sub a b to) = IsOperand a × IsOperand b × (to < REGISTERS)
IsInstr fs len (Eq a b target) = IsOperand a × IsOperand b × (target ≤ len)
IsInstr fs len (Less a b target) = IsOperand a × IsOperand b × (target ≤ len)
IsInstr fs len (Jump target) = target ≤ len
IsInstr fs len (Call function at) = IsSomeAnd (slice_get fs function) (λ f. IsCallPlace at f.arity)
IsInstr fs len (CallExt to at) = IsFunctionName to × IsCallPlace at to.arity
IsInstr fs len (Ret value) = IsOperand value
IsInstr fs len (Pget key to) = (key.0 < MOST_NAMES) × (to < REGISTERS)
IsInstr fs len (PgetOr key other to) = (key.0 < MOST_NAMES) × IsOperand other × (to < REGISTERS)
IsInstr fs len (Elem index from to) = IsOperand index × IsOperand from × (to < REGISTERS)
IsInstr fs len (Print value) = IsOperand value
IsInstr fs len Yield = Unit {0}

-- an instruction of code with fewer instructions than there are places, so that its target has a place
abbrev pub IsInstrAmong : ℕ → Instr → Type 0
IsInstrAmong places i = (fs : List Function) × (len : ℕ) × IsInstr fs len i × (len < places)

-- a function, of at most 15 arguments, of a module with these functions
pub record IsFunction (fs : List Function) (f : Function) : Type 0 where
  pub named : f.name.0 < MOST_NAMES
  pub arity : f.arity ≤ MOST_ARGUMENTS
  pub code : All (IsInstr fs (length f.code)) f.code

-- the functions at these places are one
pub record SameFunction (functions : List Function) (i j : ℕ) : Type 0 where
  pub first : Function
  pub second : Function
  pub first_at : slice_get functions i ≡ Some first
  pub second_at : slice_get functions j ≡ Some second
  pub name : first.name ≡ second.name
  pub arity : first.arity ≡ second.arity

-- a module that some module text has
pub record IsModule (m : Module) : Type 0 where
  pub named : m.name.0 < MOST_NAMES
  pub least_version : 1 ≤ m.version
  pub greatest_version : m.version ≤ GREATEST_VERSION
  pub functions : All (IsFunction m.functions) m.functions
  pub few : length m.functions ≤ MOST_FUNCTIONS
  pub apart : (i j : ℕ) → i < j → SameFunction m.functions i j → ⊥
  pub short : length (module_image m) ≤ LONGEST_IMAGE
