-- The functions that a script names, with that of a line, if it has one.
use Rattle.std.specs.Prelude.{Bool, false, List, Option, Some, None, Result, Ok}
use Rattle.term_core.specs.declared.atom.Mfa.{Mfa}
use Rattle.script_text.specs.declared.reading.cause.LineCause.{LineCause}
use Rattle.script_text.specs.Sets.{passes_functions, mfa_added}

-- the functions with one more, if there is one
abbrev pub counted_added : List Mfa → Option Mfa → Result (List Mfa) LineCause
counted_added fs None = Ok fs
counted_added fs (Some f) = mfa_added fs f

-- whether the functions with one more, if there is one, are too many
abbrev pub passes_counted : List Mfa → Option Mfa → Bool
passes_counted fs None = false
passes_counted fs (Some f) = passes_functions fs f
