-- How many commands of each loader the entries so far have ended, as a list of counts; and what is left to be ended by those behind.
-- Source: this project's profile. Private contracts alone cite it.
use Rattle.std.specs.Prelude.{◌≡◌, ℕ, List, drop, slice_index}
use Rattle.script_core.specs.declared.script.ScriptCmd.{ScriptCmd}
use Rattle.script_core.specs.Processes.{commands_at}
use Rattle.run_log.specs.declared.logs.Entry.{Entry}
use Rattle.run_log.specs.Legal.{commands_in}

-- how many commands of a loader were ended
abbrev pub loader_place : List ℕ → ℕ → ℕ
loader_place places loader = slice_index places loader

-- the entries end just the commands that are left of each loader, in order
abbrev pub AreLeft : List (List ScriptCmd) → List ℕ → List Entry → Type 0
AreLeft loaders places journal = (loader : ℕ) → commands_in loader journal ≡ drop (loader_place places loader) (commands_at loaders loader)
