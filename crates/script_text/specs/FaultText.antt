-- The line that a refusal prints, without its line feed.
-- Source: this project's script text.
use Rattle.std.specs.Prelude.{ℕ, List, [], ◌++◌, codes}
use Rattle.std.specs.Fmt.{decimal}
use Rattle.script_text.specs.declared.fault.Which.{Which}
use Rattle.script_text.specs.declared.fault.Which.TheVariants as which
use Rattle.script_text.specs.declared.fault.ScriptFault.{ScriptFault}
use Rattle.script_text.specs.declared.fault.ScriptFault.TheVariants as faults

-- the word of a limit
abbrev pub which_text : Which → List ℕ
which_text which.Integer = codes "integer"
which_text which.Term = codes "term"
which_text which.Names = codes "names"
which_text which.Functions = codes "functions"
which_text which.Module = codes "module"
which_text which.Exports = codes "exports"
which_text which.Processes = codes "processes"
which_text which.Loaders = codes "loaders"
which_text which.Observers = codes "observers"

-- a fault of a line
abbrev pub refused_at : ℕ → List ℕ → List ℕ
refused_at line cause = codes "refused " ++ (decimal line ++ cause)

-- the fault of a text; want of memory has no line
abbrev pub fault_text : ScriptFault → List ℕ
fault_text faults.FileTooLong = refused_at 0 (codes " file_too_long")
fault_text (faults.LineTooLong line) = refused_at line (codes " line_too_long")
fault_text (faults.Syntax line) = refused_at line (codes " syntax")
fault_text (faults.UnknownName line) = refused_at line (codes " unknown_name")
fault_text (faults.Duplicate line) = refused_at line (codes " duplicate")
fault_text (faults.Limit line limit) = refused_at line (codes " limit " ++ which_text limit)
fault_text faults.NoMemory = []
