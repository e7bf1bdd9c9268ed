-- How the commands of a report's entries are read. What processes did is in the reply: until it is read, none lingers and none was killed.
-- Source: this project's report text. The texts stand in run_log; laws say that both agree.
use Rattle.std.specs.Prelude.{ℕ, false, List, Option, Some, None, bytes_eq, codes, if◌then◌else◌}
use Rattle.term_core.specs.declared.atom.AtomId.{AtomId}
use Rattle.term_core.specs.Plain.{term_of}
use Rattle.server_core.specs.declared.command.ModRef.{ModRef}
use Rattle.server_core.specs.declared.command.Cmd.{Cmd}
use Rattle.server_core.specs.declared.command.Cmd.TheVariants.{Load, Delete, SoftPurge, Doom, Purge, CheckOld, Put, Erase, Trace, Spawn, Release}
use Rattle.term_core.specs.Text.Steps.{◌>>=◌}
use Rattle.term_core.specs.Text.Cuts.{cut_at}
use Rattle.term_core.specs.Text.Parts.{parts_between, each_reading}
use Rattle.term_core.specs.Text.Words.{switch_reading}
use Rattle.term_core.specs.Text.Words.{number_reading}
use Rattle.mod_text.specs.LineReading.{version_reading}
use Rattle.report_text.specs.WordReading.{atom_reading}
use Rattle.report_text.specs.TermReading.{paired, plain_reading, function_reading, call_reading}

-- a version of a module
abbrev pub reference_reading : List (List ℕ) → List ℕ → Option ModRef
reference_reading names text = paired 46 (atom_reading names) version_reading text >>= λ p. Some (record { name = p.0; version = p.1 })

-- a load, of modules with spaces between them
abbrev pub load_reading : List (List ℕ) → List ℕ → Option Cmd
load_reading names text = each_reading (reference_reading names) (parts_between 32 text) >>= λ refs. Some (Load refs)

-- a put
abbrev pub put_reading : List (List ℕ) → List ℕ → Option Cmd
put_reading names text = paired 32 (atom_reading names) (plain_reading names) text >>= λ p. Some (Put p.0 (term_of p.1))

-- a breakpoint
abbrev pub trace_reading : List (List ℕ) → List ℕ → Option Cmd
trace_reading names text = paired 32 (function_reading names) switch_reading text >>= λ p. Some (Trace p.0 p.1)

-- a spawn
abbrev pub spawn_reading : List (List ℕ) → List ℕ → Option Cmd
spawn_reading names text = call_reading names text >>= λ call. Some (Spawn call.target call.args)

-- a release
abbrev pub release_reading : List ℕ → Option Cmd
release_reading text = number_reading text >>= λ serial. Some (Release serial)

-- the command of one atom with this word
abbrev pub atom_command : List ℕ → AtomId → Option Cmd
atom_command word name =
    if bytes_eq word (codes "delete") then Some (Delete name)
    else (if bytes_eq word (codes "soft_purge") then Some (SoftPurge name None)
    else (if bytes_eq word (codes "doom") then Some (Doom name)
    else (if bytes_eq word (codes "purge") then Some (Purge name false)
    else (if bytes_eq word (codes "check_old") then Some (CheckOld name)
    else (if bytes_eq word (codes "erase") then Some (Erase name) else None)))))

-- a command of one atom
abbrev pub on_atom_reading : List (List ℕ) → List ℕ → List ℕ → Option Cmd
on_atom_reading names word text = atom_reading names text >>= λ name. atom_command word name

-- the command with this word
abbrev pub worded_command : List (List ℕ) → List ℕ → List ℕ → Option Cmd
worded_command names word text =
    if bytes_eq word (codes "load") then load_reading names text
    else (if bytes_eq word (codes "put") then put_reading names text
    else (if bytes_eq word (codes "trace") then trace_reading names text
    else (if bytes_eq word (codes "spawn") then spawn_reading names text
    else (if bytes_eq word (codes "release") then release_reading text else on_atom_reading names word text))))

-- a command
abbrev pub command_reading : List (List ℕ) → List ℕ → Option Cmd
command_reading names text = cut_at 32 text >>= λ sides. worded_command names sides.0 sides.1
