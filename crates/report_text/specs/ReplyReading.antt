-- How the replies of a report's entries are read, and what a command has of them.
-- Source: this project's report text. The texts stand in run_log; laws say that both agree.
use Rattle.std.specs.Prelude.{ℕ, List, [], ◌∷◌, Option, Some, None, bytes_eq, codes, if◌then◌else◌}
use Rattle.term_core.specs.declared.atom.AtomId.{AtomId}
use Rattle.server_core.specs.declared.command.Cmd.{Cmd}
use Rattle.server_core.specs.declared.command.Cmd.TheVariants.{Load, Delete, SoftPurge, Doom, Purge, CheckOld, Put, Erase, Trace, Spawn, Release}
use Rattle.server_core.specs.declared.command.Linger.{Linger}
use Rattle.server_core.specs.declared.command.Limit.{Limit}
use Rattle.server_core.specs.declared.command.Limit.TheVariants.{Instances, Keys, Areas}
use Rattle.server_core.specs.declared.command.Reply.{Reply}
use Rattle.server_core.specs.declared.command.Reply.TheVariants as replies
use Rattle.term_core.specs.Text.Steps.{◌>>=◌}
use Rattle.term_core.specs.Text.Cuts.{cut_at}
use Rattle.term_core.specs.Text.Parts.{parts_between, each_reading}
use Rattle.run_log.specs.WellFormed.{lingering_in, is_true_reply}
use Rattle.term_core.specs.Text.Words.{narrow_reading, number_reading}
use Rattle.report_text.specs.WordReading.{atom_reading}
use Rattle.report_text.specs.TermReading.{paired, ended_reading, behind}

-- a process and a turn
abbrev pub linger_reading : List ℕ → Option Linger
linger_reading text = paired 32 narrow_reading narrow_reading text >>= λ p. Some (record { process = p.0; turn = p.1 })

-- a limit, by its word
abbrev pub limit_reading : List ℕ → Option Limit
limit_reading text =
    if bytes_eq text (codes "instances") then Some Instances
    else (if bytes_eq text (codes "keys") then Some Keys else (if bytes_eq text (codes "areas") then Some Areas else None))

-- atoms with commas between them
abbrev pub atoms_reading : List (List ℕ) → List ℕ → Option (List AtomId)
atoms_reading names [] = Some []
atoms_reading names (c ∷ text) = each_reading (atom_reading names) (parts_between 44 (c ∷ text))

-- atoms in front of a bracket that ends the text
abbrev pub closed_atoms : List (List ℕ) → List ℕ → Option (List AtomId)
closed_atoms names text = cut_at 93 text >>= λ sides. ended_reading (atoms_reading names) sides

-- modules in brackets
abbrev pub not_purged_reading : List (List ℕ) → List ℕ → Option Reply
not_purged_reading names text = behind 91 (closed_atoms names) text >>= λ modules. Some (replies.NotPurged modules)

-- a process that lingers
abbrev pub false_reading : List ℕ → Option Reply
false_reading text = linger_reading text >>= λ linger. Some (replies.FalseBy linger)

-- a module that stands again
abbrev pub duplicated_reading : List (List ℕ) → List ℕ → Option Reply
duplicated_reading names text = atom_reading names text >>= λ name. Some (replies.Duplicated name)

-- a limit that was met
abbrev pub system_limit_reading : List ℕ → Option Reply
system_limit_reading text = limit_reading text >>= λ limit. Some (replies.SystemLimit limit)

-- the reply with this word and more
abbrev pub worded_reply : List (List ℕ) → List ℕ → List ℕ → Option Reply
worded_reply names word text =
    if bytes_eq word (codes "false") then false_reading text
    else (if bytes_eq word (codes "not_purged") then not_purged_reading names text
    else (if bytes_eq word (codes "duplicated") then duplicated_reading names text
    else (if bytes_eq word (codes "system_limit") then system_limit_reading text else None)))

-- a reply of a word and more
abbrev pub longer_reply : List (List ℕ) → List ℕ → Option Reply
longer_reply names text = cut_at 32 text >>= λ sides. worded_reply names sides.0 sides.1

-- a reply
abbrev pub reply_reading : List (List ℕ) → List ℕ → Option Reply
reply_reading names text =
    if bytes_eq text (codes "ok") then Some replies.Ok
    else (if bytes_eq text (codes "true") then Some replies.True
    else (if bytes_eq text (codes "false") then Some replies.False else longer_reply names text))

-- the generation that was published, if one was
abbrev pub published_reading : List ℕ → Option (Option ℕ)
published_reading text = if bytes_eq text (codes "-") then Some None else (behind 64 number_reading text >>= λ generation. Some (Some generation))

-- the command with what its reply says of processes
abbrev pub agreed : Cmd → Reply → Cmd
agreed (Load refs) reply = Load refs
agreed (Delete name) reply = Delete name
agreed (SoftPurge name lingers) reply = SoftPurge name (lingering_in reply)
agreed (Doom name) reply = Doom name
agreed (Purge name killed) reply = Purge name (is_true_reply reply)
agreed (CheckOld name) reply = CheckOld name
agreed (Put key term) reply = Put key term
agreed (Erase key) reply = Erase key
agreed (Trace target on) reply = Trace target on
agreed (Spawn target args) reply = Spawn target args
agreed (Release serial) reply = Release serial
