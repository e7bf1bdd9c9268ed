-- How the reading of a whole text ends: with a module, with a line whose label or local function is lacking, with a faulty line,
-- or for want of memory.
use Rattle.std.specs.Prelude.{◌≡◌, ℕ, ◌+◌, ◌⊎◌, List, [], Some, None, Result, Ok, Err}
use Rattle.mod_core.specs.declared.code.Module.{Module}
use Rattle.mod_text.specs.declared.fault.FinishFault.{FinishFault}
use Rattle.mod_text.specs.declared.fault.FinishFault.TheVariants as finish_faults
use Rattle.mod_text.specs.declared.fault.LineStop.{LineStop}
use Rattle.mod_text.specs.declared.fault.ModFault.{ModFault}
use Rattle.mod_text.specs.declared.fault.ModFault.TheVariants.{Label, NoMemory}
use Rattle.mod_text.specs.ModuleLine.{LineForm}
use Rattle.mod_text.specs.ModuleText.{mod_fault}
use Rattle.mod_text.specs.ModuleValue.{module_of, unsettled_line}
use Rattle.mod_text.specs.Reading.{bytes_on, StopsSo}

-- one cause for each way to end, under the names before and after
pub data Ends (before : List (List ℕ)) (bytes : List ℕ) (first : ℕ) (after : List (List ℕ)) : Result Module ModFault → Type 0 where
  read : (forms : List LineForm) (m : Module) → bytes_on before [] bytes ≡ Ok (after, forms) → m ≡ module_of after forms → unsettled_line forms ≡ None → Ends before bytes first after (Ok m)
  missing : (forms : List LineForm) (number : ℕ) (fault : ModFault) → bytes_on before [] bytes ≡ Ok (after, forms) → unsettled_line forms ≡ Some number → fault ≡ Label (first + number) → Ends before bytes first after (Err fault)
  stopped : (stop : LineStop) (fault : ModFault) → StopsSo (bytes_on before [] bytes) stop → fault ≡ mod_fault (first + stop.number) stop.fault → Ends before bytes first after (Err fault)
  no_memory : (fault : ModFault) → fault ≡ NoMemory → Ends before bytes first after (Err fault)

-- a fault is this one, or else want of memory
abbrev pub IsFaultOr : ModFault → ModFault → Type 0
IsFaultOr fault wanted = (fault ≡ wanted) ⊎ (fault ≡ NoMemory)

-- the fault of lines that were not settled
abbrev pub IsLabelFault : ℕ → FinishFault → ModFault → Type 0
IsLabelFault first (finish_faults.Missing number) fault = IsFaultOr fault (Label (first + number))
IsLabelFault first finish_faults.NoMemory fault = fault ≡ NoMemory
