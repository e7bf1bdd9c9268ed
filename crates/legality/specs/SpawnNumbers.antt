-- What is left to be asked of the first turns of the processes whose spawns are still to come.
-- Source: this project's profile. Private contracts alone cite it.
use Rattle.std.specs.Prelude.{◌≡◌, ℕ, ◌+◌, ◌<◌, ◌≤◌, List, length, take, slice_get, slice_index, slice_set, Bool, true, false, Option, None, Some, IfSome, if◌then◌else◌}
use Rattle.term_core.specs.declared.atom.Mfa.{Mfa}
use Rattle.term_core.specs.PlainTerm.{PlainTerm}
use Rattle.server_core.specs.declared.command.Cmd.{Cmd}
use Rattle.server_core.specs.declared.command.Cmd.TheVariants as cmds
use Rattle.script_core.specs.declared.script.ScriptCmd.{ScriptCmd}
use Rattle.script_core.specs.declared.script.ScriptCmd.TheVariants as script
use Rattle.script_core.specs.Processes.{spawn_count}
use Rattle.run_log.specs.declared.logs.Entry.{Entry}
use Rattle.run_log.specs.declared.logs.ProcessLog.{ProcessLog}
use Rattle.run_log.specs.declared.logs.Who.{Who}
use Rattle.run_log.specs.declared.logs.Who.TheVariants.{Loader, Runtime}
use Rattle.run_log.specs.Journal.{published_before}
use Rattle.run_log.specs.Legal.{commands_in, first_generation}

-- whether a command is a spawn
abbrev pub is_spawn : Cmd → Bool
is_spawn (cmds.Spawn target args) = true
is_spawn _ = false

-- the loader of a spawn that someone makes
abbrev pub spawned_by : Who → Bool → Option ℕ
spawned_by Runtime spawns = None
spawned_by (Loader number) spawns = if spawns then Some number else None

-- the loader that an entry is a spawn of, if it is one
abbrev pub spawning_loader : Entry → Option ℕ
spawning_loader e = spawned_by e.who (is_spawn e.cmd)

-- the first turn of a process is under no older generation than so many
abbrev pub BeginsFrom : ℕ → ProcessLog → Type 0
BeginsFrom published process = IfSome (first_generation process.spans) (λ g. published ≤ g)

-- the loader's next number is one more, or may stay where no process has it
pub data HasMovedOn (processes loader : ℕ) (old new : List ℕ) : Type 0 where
  moved_on : new ≡ slice_set old loader (slice_index old loader + 1) → HasMovedOn processes loader old new
  stays_behind : processes ≤ slice_index old loader → new ≡ old → HasMovedOn processes loader old new

-- with so many generations published and this number for the loader's next process, the first turn of each process that these commands spawn is under a
-- generation that its spawn had seen, or a later one; the entries are those that are left, and the commands those that they end
abbrev pub CommandsFit : List ProcessLog → ℕ → ℕ → ℕ → List ScriptCmd → List Entry → Type 0
CommandsFit processes loader published next commands journal =
    (place : ℕ) (target : Mfa) (args : List PlainTerm) (process : ProcessLog) → slice_get commands place ≡ Some (script.Spawn target args)
    → slice_get processes (next + spawn_count (take place commands)) ≡ Some process → BeginsFrom (published + published_before loader place journal) process

-- the same of each loader that has a number for its next process
abbrev pub LaterSpawnsFit : List ProcessLog → ℕ → List ℕ → List Entry → Type 0
LaterSpawnsFit processes published numbers journal =
    (loader : ℕ) → loader < length numbers → CommandsFit processes loader published (slice_index numbers loader) (commands_in loader journal) journal
