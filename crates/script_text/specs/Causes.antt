-- What is wrong with a line, wherever it stands, and the fault of the line of a number.
use Rattle.std.specs.Prelude.{◌≡◌, ℕ, Result, Ok, Err}
use Rattle.term_core.specs.declared.names.NameFault.{NameFault}
use Rattle.term_core.specs.declared.names.NameFault.TheVariants as name_faults
use Rattle.mod_text.specs.declared.fault.LineFault.{LineFault}
use Rattle.mod_text.specs.declared.fault.LineFault.TheVariants as line_faults
use Rattle.script_text.specs.declared.fault.Which.TheVariants as which
use Rattle.script_text.specs.declared.fault.ScriptFault.{ScriptFault}
use Rattle.script_text.specs.declared.fault.ScriptFault.TheVariants as faults
use Rattle.script_text.specs.declared.reading.cause.LineCause.{LineCause}
use Rattle.script_text.specs.declared.reading.cause.LineCause.TheVariants as causes

-- the fault of a script by which the line of this number is refused
abbrev pub fault_at : ℕ → LineCause → ScriptFault
fault_at line causes.Syntax = faults.Syntax line
fault_at line (causes.Limit limit) = faults.Limit line limit
fault_at line causes.Duplicate = faults.Duplicate line
fault_at line causes.NoMemory = faults.NoMemory

-- why a line is refused whose new name could not be kept
abbrev pub cause_of_name : NameFault → LineCause
cause_of_name name_faults.Full = causes.Limit which.Names
cause_of_name name_faults.NoMemory = causes.NoMemory

-- why a line of a module's text is refused, as a line of the script
abbrev pub cause_of_code : LineFault → LineCause
cause_of_code line_faults.Syntax = causes.Syntax
cause_of_code line_faults.Register = causes.Syntax
cause_of_code line_faults.Int = causes.Limit which.Integer
cause_of_code line_faults.Term = causes.Limit which.Term
cause_of_code line_faults.Names = causes.Limit which.Names
cause_of_code line_faults.TooManyFunctions = causes.Limit which.Functions
cause_of_code line_faults.TooLong = causes.Limit which.Module
cause_of_code line_faults.Duplicate = causes.Duplicate
cause_of_code line_faults.NoMemory = causes.NoMemory

-- a refusal is that of the reading; want of memory is free
abbrev pub Fails : {A : Type 0} → Result A LineCause → LineCause → Type 0
Fails step causes.NoMemory = Unit {0}
Fails step cause = step ≡ Err cause

-- what was answered, seen by view, is what is read, or its cause, unless memory was refused
abbrev pub Gives : {X A : Type 0} → (X → A) → Result X LineCause → Result A LineCause → Type 0
Gives view (Ok x) step = step ≡ Ok (view x)
Gives view (Err cause) step = Fails step cause

infixl 10 ◌>>=◌
-- the second step is made where the first one was
abbrev pub ◌>>=◌ : {A B : Type 0} → Result A LineCause → (A → Result B LineCause) → Result B LineCause
(Ok x) >>= f = f x
(Err cause) >>= f = Err cause

-- the same for faults of a text
abbrev pub FailsWith : {A : Type 0} → Result A ScriptFault → ScriptFault → Type 0
FailsWith step faults.NoMemory = Unit {0}
FailsWith step fault = step ≡ Err fault

-- the same as Gives, for what is read of a whole text
abbrev pub GivesText : {X A : Type 0} → (X → A) → Result X ScriptFault → Result A ScriptFault → Type 0
GivesText view (Ok x) step = step ≡ Ok (view x)
GivesText view (Err fault) step = FailsWith step fault
