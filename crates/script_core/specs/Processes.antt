-- The processes of a script: each spawn line makes one, and they are numbered from 0 in the order of the text.
-- Source: this project's profile. The numbers are counted here alone: whoever lists, runs or judges processes cites them.
use Rattle.std.specs.Prelude.{ℕ, suc, ◌+◌, List, [], ◌∷◌, ◌++◌, length, take, slice_get, sum_by, unwrap_or}
use Rattle.term_core.specs.declared.atom.Mfa.{Mfa}
use Rattle.term_core.specs.PlainTerm.{PlainTerm}
use Rattle.script_core.specs.declared.script.ScriptCmd.{ScriptCmd}
use Rattle.script_core.specs.declared.script.ScriptCmd.TheVariants.{Spawn}
use Rattle.script_core.specs.declared.script.Script.{Script}

-- a spawn line of the script: its loader, its place among the loader's commands, and its call
pub record SpawnLine : Type 0 where
  pub loader : ℕ
  pub place : ℕ
  pub target : Mfa
  pub args : List PlainTerm

-- the spawn line of a command at a place of a loader, if it is one: this alone says which commands make a process
abbrev pub line_of : ℕ → ℕ → ScriptCmd → List SpawnLine
line_of loader place (Spawn target args) = record { loader = loader; place = place; target = target; args = args } ∷ []
line_of loader place cmd = []

-- the spawn lines among the commands of a loader, from a place on
abbrev pub spawns_from : ℕ → ℕ → List ScriptCmd → List SpawnLine
spawns_from loader place [] = []
spawns_from loader place (cmd ∷ commands) = line_of loader place cmd ++ spawns_from loader (suc place) commands

-- the spawn lines of loaders that are numbered from here on, in the order of the text: process N is of line N
abbrev pub spawns_of : ℕ → List (List ScriptCmd) → List SpawnLine
spawns_of loader [] = []
spawns_of loader (commands ∷ loaders) = spawns_from loader 0 commands ++ spawns_of (suc loader) loaders

-- how many processes a command makes
abbrev pub spawns_in : ScriptCmd → ℕ
spawns_in cmd = length (line_of 0 0 cmd)

-- how many processes these commands make
abbrev pub spawn_count : List ScriptCmd → ℕ
spawn_count commands = sum_by spawns_in commands

-- how many processes a script makes
abbrev pub processes_of : Script → ℕ
processes_of s = sum_by spawn_count s.loaders

-- the commands of a loader, or none where there is no such loader
abbrev pub commands_at : List (List ScriptCmd) → ℕ → List ScriptCmd
commands_at loaders loader = unwrap_or (slice_get loaders loader) []

-- the number of a loader's first process: so many are made in the loaders before it
abbrev pub first_number : List (List ScriptCmd) → ℕ → ℕ
first_number loaders loader = sum_by spawn_count (take loader loaders)

-- the number of the process that a command makes at a place of a loader: so many are made before it in the text
abbrev pub spawn_number : List (List ScriptCmd) → ℕ → ℕ → ℕ
spawn_number loaders loader place = first_number loaders loader + spawn_count (take place (commands_at loaders loader))
