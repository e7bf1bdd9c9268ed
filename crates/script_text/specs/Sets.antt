-- The tables of the functions that a script names and of the modules that it gives, by the numbers of their names.
use Rattle.std.specs.Prelude.{◌==◌, ◌&&◌, not, nat_le, Bool, List, [], ◌∷◌, ◌++◌, length, Result, Ok, Err, if◌then◌else◌}
use Rattle.std.specs.List.{list_any}
use Rattle.term_core.specs.declared.atom.Mfa.{Mfa}
use Rattle.server_core.specs.declared.command.ModRef.{ModRef}
use Rattle.server_core.specs.Generations.{is_same_name}
use Rattle.script_core.specs.declared.script.TheConstants.{MOST_FUNCTION_NAMES}
use Rattle.script_text.specs.declared.fault.Which.TheVariants as which
use Rattle.script_text.specs.declared.reading.cause.LineCause.{LineCause}
use Rattle.script_text.specs.declared.reading.cause.LineCause.TheVariants as causes
use Rattle.script_text.specs.declared.reading.sets.FunctionKey.{FunctionKey}
use Rattle.script_text.specs.declared.reading.sets.RefKey.{RefKey}

-- the function that a key of the set stands for
abbrev pub mfa_of_key : FunctionKey → Mfa
mfa_of_key k = record { «module» = record { 0 = k.«module» }; name = record { 0 = k.name }; arity = k.arity }

-- the version of a module that a key of the set stands for
abbrev pub ref_of_key : RefKey → ModRef
ref_of_key k = record { name = record { 0 = k.name }; version = k.version }

-- both are one version of one module
abbrev pub is_same_mod_ref : ModRef → ModRef → Bool
is_same_mod_ref r s = r.name.0 == s.name.0 && r.version == s.version

-- a function that is new stands behind those before it
abbrev pub mfas_with : List Mfa → Mfa → List Mfa
mfas_with fs f = if list_any (is_same_name f) fs then fs else fs ++ f ∷ []

-- whether one function more is too many: it is new, and there are 1,024 others
abbrev pub passes_functions : List Mfa → Mfa → Bool
passes_functions fs f = nat_le MOST_FUNCTION_NAMES (length fs) && not (list_any (is_same_name f) fs)

-- the functions with one more, where they are few enough
abbrev pub mfa_added : List Mfa → Mfa → Result (List Mfa) LineCause
mfa_added fs f = if passes_functions fs f then Err (causes.Limit which.Exports) else Ok (mfas_with fs f)

-- whether a version of a module is among these
abbrev pub is_among : List ModRef → ModRef → Bool
is_among refs r = list_any (is_same_mod_ref r) refs

-- the modules with one more, where it is new
abbrev pub ref_added : List ModRef → ModRef → Result (List ModRef) LineCause
ref_added refs r = if is_among refs r then Err causes.Duplicate else Ok (refs ++ r ∷ [])
