-- The numbers of functions' names reach whatever the texts export.
-- Source: this project's own; the numbers are given once, before the first load.
use Rattle.std.specs.Prelude.{◌≡◌, List, Some, All, IsSome}
use Rattle.term_core.specs.declared.atom.Mfa.{Mfa}
use Rattle.mod_core.specs.declared.code.Module.{Module}
use Rattle.server_core.specs.declared.change.Change.{Change}
use Rattle.server_core.specs.declared.command.Cmd.{Cmd}
use Rattle.server_core.specs.CommandTable.{Outcome, apply_of}
use Rattle.server_core.specs.Generations.{AreNumbered, number_of_name}
use Rattle.server_core.specs.ServerState.{IsSound, ServerState, export_of}
use Rattle.change_laws.specs.Changes.{modules_of, changed_state}

-- each name under which the module exports a function has a number
abbrev pub IsNumbered : List Mfa → Module → Type 0
IsNumbered names m = (to : Mfa) → m.name.0 ≡ to.«module».0 → IsSome (export_of m to) → IsSome (number_of_name names to)

-- where the modules that come in have numbers for their names, all names that are reached have numbers still
abbrev pub ChangesKeepNumbers : Type 0
ChangesKeepNumbers = (names : List Mfa) (s : ServerState) (change : Change) → IsSound s → All (IsNumbered names) (modules_of change) → AreNumbered names s → AreNumbered names (changed_state s change)

-- and so after each command, where each of the texts has them
abbrev pub CommandsKeepNumbers : Type 0
CommandsKeepNumbers = (names : List Mfa) (texts : List Module) (s : ServerState) (cmd : Cmd) (o : Outcome) → IsSound s → All (IsNumbered names) texts → AreNumbered names s → apply_of texts s cmd ≡ Some o → AreNumbered names o.state
