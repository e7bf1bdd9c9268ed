-- A command that was decided, and an area that is released before its change is made.
-- Source: this project's own; a loader decides, waits, and makes the change in one step.
use Rattle.std.specs.Prelude.{◌≡◌, ℕ, List, Some}
use Rattle.mod_core.specs.declared.code.Module.{Module}
use Rattle.server_core.specs.declared.change.Change.{Change}
use Rattle.server_core.specs.declared.command.Cmd.{Cmd}
use Rattle.server_core.specs.CommandTable.{apply_of, with_released}
use Rattle.server_core.specs.Decided.{IsNoRelease, change_made}
use Rattle.server_core.specs.ServerState.{ServerState}

-- the case of the command table for which a change was decided is still the command's case once an area was released
abbrev pub DecidedStays : Type 0
DecidedStays = (texts : List Module) (s : ServerState) (serial : ℕ) (cmd : Cmd) (change : Change) → IsNoRelease change → apply_of texts s cmd ≡ Some (change_made s change)
    → apply_of texts (with_released s serial) cmd ≡ Some (change_made (with_released s serial) change)
