-- A journal of commands, and the generations that it makes: the k-th published entry makes generation k.
-- Source: this project's profile. The definition replays the command table; a running server keeps one state.
use Rattle.std.specs.Prelude.{ℕ, zero, suc, ◌+◌, Bool, true, false, ◌&&◌, ◌==◌, List, [], ◌∷◌, map, filter, sum, Option, Some, None, is_some, if◌then◌else◌}
use Rattle.mod_core.specs.declared.code.Module.{Module}
use Rattle.server_core.specs.declared.command.Cmd.{Cmd}
use Rattle.server_core.specs.declared.command.Cmd.TheVariants.{Doom, Release}
use Rattle.server_core.specs.ServerState.{ServerState}
use Rattle.server_core.specs.CommandTable.{Outcome, apply_of}
use Rattle.run_log.specs.declared.logs.Who.{Who}
use Rattle.run_log.specs.declared.logs.Who.TheVariants.{Loader, Runtime}
use Rattle.run_log.specs.declared.logs.Entry.{Entry}

-- the state that an outcome leaves, or the one before where there is none
abbrev pub state_after : ServerState → Option Outcome → ServerState
state_after s None = s
state_after s (Some outcome) = outcome.state

-- the state after a command
abbrev pub next_state : List Module → ServerState → Cmd → ServerState
next_state texts s cmd = state_after s (apply_of texts s cmd)

-- the state after the whole journal
abbrev pub newest_state : List Module → ServerState → List Entry → ServerState
newest_state texts s [] = s
newest_state texts s (e ∷ journal) = newest_state texts (next_state texts s e.cmd) journal

-- the state of generation k, from a state on: the one just after the k-th published entry
abbrev pub state_at : List Module → ServerState → List Entry → ℕ → ServerState
state_at texts s [] k = s
state_at texts s (e ∷ journal) k = if s.generation == k then s else state_at texts (next_state texts s e.cmd) journal k

-- how many generations an entry publishes
abbrev pub publishes : Entry → ℕ
publishes e = if is_some e.published then 1 else 0

-- how many generations these entries publish
abbrev pub published_count : List Entry → ℕ
published_count journal = sum (map publishes journal)

-- whether an entry is of the loader with this number
abbrev pub is_of : ℕ → Who → Bool
is_of loader (Loader number) = number == loader
is_of loader Runtime = false

-- the entries of a loader, in order
abbrev pub entries_of : ℕ → List Entry → List Entry
entries_of loader journal = filter (λ e. is_of loader e.who) journal

-- whether a command of the server ends a command of a script: a doom does not, since its purge is still to come, and a release is in no script
abbrev pub ends_one : Cmd → Bool
ends_one (Doom name) = false
ends_one (Release serial) = false
ends_one _ = true

-- whether an entry ends a command of the loader with this number
abbrev pub ends_command : ℕ → Entry → Bool
ends_command loader e = is_of loader e.who && ends_one e.cmd

-- how many generations were published before the entry that ends a loader's command at a place, counted from 0
abbrev pub published_before : ℕ → ℕ → List Entry → ℕ
published_before loader place [] = 0
published_before loader zero (e ∷ journal) = if ends_command loader e then 0 else publishes e + published_before loader zero journal
published_before loader (suc place) (e ∷ journal) = publishes e + published_before loader (if ends_command loader e then place else suc place) journal
