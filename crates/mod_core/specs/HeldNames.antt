-- The atoms of a module are those of a table of names.
-- Source: this project's modules. A name is a number of the table.
use Rattle.std.specs.Prelude.{ℕ, ℤ, ◌<◌, List, length, All}
use Rattle.term_core.specs.declared.term.Term.{Term}
use Rattle.term_core.specs.Plain.{plain}
use Rattle.term_core.specs.PlainTerm.{EachLeaf}
use Rattle.mod_core.specs.declared.code.Operand.{Operand}
use Rattle.mod_core.specs.declared.code.Operand.TheVariants.{Reg, Const}
use Rattle.mod_core.specs.declared.code.Instr.{Instr}
use Rattle.mod_core.specs.declared.code.Instr.TheVariants.{Move, Add, Sub, Eq, Less, Jump, Call, CallExt, Ret, Pget, PgetOr, Elem, Print, Yield}
use Rattle.mod_core.specs.declared.code.Function.{Function}
use Rattle.mod_core.specs.declared.code.Module.{Module}

-- a constant's atoms are of so many
abbrev pub IsConstantAmong : ℕ → Term → Type 0
IsConstantAmong count term = EachLeaf {Z = ℤ} (λ _. Unit {0}) (λ a. a < count) (plain term)

-- so is that of an operand
abbrev pub IsOperandAmong : ℕ → Operand → Type 0
IsOperandAmong count (Reg number) = Unit {0}
IsOperandAmong count (Const term) = IsConstantAmong count term

-- and those of an instruction
abbrev pub HasAtomsAmong : ℕ → Instr → Type 0
HasAtomsAmong count (Move from to) = IsOperandAmong count from
HasAtomsAmong count (Add a b to) = IsOperandAmong count a × IsOperandAmong count b
HasAtomsAmong count (Sub a b to) = IsOperandAmong count a × IsOperandAmong count b
HasAtomsAmong count (Eq a b target) = IsOperandAmong count a × IsOperandAmong count b
HasAtomsAmong count (Less a b target) = IsOperandAmong count a × IsOperandAmong count b
HasAtomsAmong count (Jump target) = Unit {0}
HasAtomsAmong count (Call function at) = Unit {0}
HasAtomsAmong count (CallExt to at) = (to.«module».0 < count) × (to.name.0 < count)
HasAtomsAmong count (Ret value) = IsOperandAmong count value
HasAtomsAmong count (Pget key to) = key.0 < count
HasAtomsAmong count (PgetOr key other to) = (key.0 < count) × IsOperandAmong count other
HasAtomsAmong count (Elem index from to) = IsOperandAmong count index × IsOperandAmong count from
HasAtomsAmong count (Print value) = IsOperandAmong count value
HasAtomsAmong count Yield = Unit {0}

-- the atoms of a function are held by a table of so many names
pub record IsFunctionHeld (count : ℕ) (f : Function) : Type 0 where
  pub name : f.name.0 < count
  pub code : All (HasAtomsAmong count) f.code

-- the atoms of a module are held by these names
pub record IsModuleHeld (names : List (List ℕ)) (m : Module) : Type 0 where
  pub name : m.name.0 < length names
  pub functions : All (IsFunctionHeld (length names)) m.functions
