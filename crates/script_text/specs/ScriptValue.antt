-- What a line of a loader block says, by a table of names.
use Rattle.std.specs.Prelude.{ℕ, List, [], ◌∷◌, map, length}
use Rattle.term_core.specs.declared.atom.AtomId.{AtomId}
use Rattle.term_core.specs.Plain.{term_of}
use Rattle.term_core.specs.PlainTerm.{PlainTerm, map_leaves}
use Rattle.term_core.specs.Written.{WrittenTerm, integer_of}
use Rattle.term_core.specs.TermText.{number_in}
use Rattle.term_core.specs.Text.Numbers.{number_value}
use Rattle.mod_text.specs.ModuleValue.{atom_in, mfa_in}
use Rattle.server_core.specs.declared.command.ModRef.{ModRef}
use Rattle.script_core.specs.declared.script.ScriptCmd.{ScriptCmd}
use Rattle.script_core.specs.declared.script.ScriptCmd.TheVariants.{Load, Delete, SoftPurge, Purge, CheckOld, Put, Erase, Trace, Spawn}
use Rattle.script_text.specs.ScriptLine.{RefForm, AtomCommand, delete, soft_purge, purge, check_old, erase, ScriptLine, load, on_atom, put, trace, spawn}

-- the version of a module that is written so
abbrev pub ref_in : List (List ℕ) → RefForm → ModRef
ref_in names r = record { name = atom_in names r.name; version = number_value r.version }

-- the term that is written so
abbrev pub argument_in : List (List ℕ) → WrittenTerm → PlainTerm
argument_in names term = map_leaves integer_of (number_in names) term

-- the command of an atom
abbrev pub command_of : AtomCommand → AtomId → ScriptCmd
command_of delete «module» = Delete «module»
command_of soft_purge «module» = SoftPurge «module»
command_of purge «module» = Purge «module»
command_of check_old «module» = CheckOld «module»
command_of erase key = Erase key

-- the command of a line, if it is one
abbrev pub commands_on : List (List ℕ) → ScriptLine → List ScriptCmd
commands_on names (load refs) = Load (map (ref_in names) refs) ∷ []
commands_on names (on_atom command name) = command_of command (atom_in names name) ∷ []
commands_on names (put key term) = Put (atom_in names key) (term_of (argument_in names term)) ∷ []
commands_on names (trace «module» name arity on) = Trace (mfa_in names «module» name arity) on ∷ []
commands_on names (spawn «module» name args) = Spawn (record { «module» = atom_in names «module»; name = atom_in names name; arity = length args }) (map (argument_in names) args) ∷ []
commands_on names line = []
