-- The text of a report: what a run did, line by line. Names are those of the script.
-- Source: this project's report text. The definition gives the whole text; the code appends to a buffer.
use Rattle.std.specs.Prelude.{ℕ, ◌+◌, Bool, true, false, List, [], ◌∷◌, ◌++◌, map, Option, Some, None, codes}
use Rattle.std.specs.List.{flat_map, join_with_byte}
use Rattle.std.specs.Fmt.{decimal, signed_decimal}
use Rattle.term_core.specs.declared.atom.Mfa.{Mfa}
use Rattle.term_core.specs.PlainTerm.{PlainTerm, map_leaves}
use Rattle.term_core.specs.TermText.{atom_text, term_text}
use Rattle.term_core.specs.Written.{written}
use Rattle.server_core.specs.declared.command.ModRef.{ModRef}
use Rattle.server_core.specs.declared.command.Cmd.{Cmd}
use Rattle.server_core.specs.declared.command.Cmd.TheVariants.{Load, Delete, SoftPurge, Doom, Purge, CheckOld, Put, Erase, Trace, Spawn, Release}
use Rattle.server_core.specs.declared.command.Limit.{Limit}
use Rattle.server_core.specs.declared.command.Limit.TheVariants.{Instances, Keys, Areas}
use Rattle.server_core.specs.declared.command.Reply.{Reply}
use Rattle.server_core.specs.declared.command.Reply.TheVariants as replies
use Rattle.machine_core.specs.declared.process.Line.{Line}
use Rattle.machine_core.specs.declared.process.Line.TheVariants as lines
use Rattle.machine_core.specs.declared.process.End.{End}
use Rattle.machine_core.specs.declared.process.End.TheVariants.{Normal, Undef, Badarg, Badarith, SystemLimit, Killed}
use Rattle.run_log.specs.declared.logs.Who.{Who}
use Rattle.run_log.specs.declared.logs.Who.TheVariants.{Loader, Runtime}
use Rattle.run_log.specs.declared.logs.Entry.{Entry}
use Rattle.run_log.specs.declared.logs.Span.{Span}
use Rattle.run_log.specs.declared.logs.ProcessLog.{ProcessLog}
use Rattle.run_log.specs.declared.logs.Snapshot.{Snapshot}
use Rattle.run_log.specs.declared.logs.RunLog.{RunLog}
use Rattle.run_log.specs.Journal.{published_count}

-- a line and its line feed
abbrev pub line_of : List ℕ → List ℕ
line_of text = text ++ 10 ∷ []

-- `m:f/a`
abbrev pub mfa_text : List (List ℕ) → Mfa → List ℕ
mfa_text names to = atom_text names to.«module».0 ++ 58 ∷ atom_text names to.name.0 ++ 47 ∷ decimal to.arity

-- the text of a term
abbrev pub plain_text : List (List ℕ) → PlainTerm → List ℕ
plain_text names term = written (map_leaves signed_decimal (atom_text names) term)

-- `m:f(t1,t2)`
abbrev pub call_text : List (List ℕ) → Mfa → List PlainTerm → List ℕ
call_text names to args = atom_text names to.«module».0 ++ 58 ∷ atom_text names to.name.0 ++ 40 ∷ join_with_byte 44 (map (plain_text names) args) ++ 41 ∷ []

-- `L0`, or `rt` for the runtime
abbrev pub who_text : Who → List ℕ
who_text (Loader number) = codes "L" ++ decimal number
who_text Runtime = codes "rt"

-- `m.1`
abbrev pub reference_text : List (List ℕ) → ModRef → List ℕ
reference_text names r = atom_text names r.name.0 ++ 46 ∷ decimal r.version

-- `on` or `off`
abbrev pub switch_text : Bool → List ℕ
switch_text true = codes "on"
switch_text false = codes "off"

-- a command as its line has it: what a process did is in the reply
abbrev pub cmd_text : List (List ℕ) → Cmd → List ℕ
cmd_text names (Load refs) = codes "load" ++ flat_map (λ r. 32 ∷ reference_text names r) refs
cmd_text names (Delete name) = codes "delete " ++ atom_text names name.0
cmd_text names (SoftPurge name lingers) = codes "soft_purge " ++ atom_text names name.0
cmd_text names (Doom name) = codes "doom " ++ atom_text names name.0
cmd_text names (Purge name killed) = codes "purge " ++ atom_text names name.0
cmd_text names (CheckOld name) = codes "check_old " ++ atom_text names name.0
cmd_text names (Put key term) = codes "put " ++ atom_text names key.0 ++ 32 ∷ term_text names term
cmd_text names (Erase key) = codes "erase " ++ atom_text names key.0
cmd_text names (Trace target on) = codes "trace " ++ mfa_text names target ++ 32 ∷ switch_text on
cmd_text names (Spawn target args) = codes "spawn " ++ call_text names target args
cmd_text names (Release serial) = codes "release " ++ decimal serial

-- the word of a limit
abbrev pub limit_text : Limit → List ℕ
limit_text Instances = codes "instances"
limit_text Keys = codes "keys"
limit_text Areas = codes "areas"

-- a reply
abbrev pub reply_text : List (List ℕ) → Reply → List ℕ
reply_text names replies.Ok = codes "ok"
reply_text names replies.True = codes "true"
reply_text names replies.False = codes "false"
reply_text names (replies.FalseBy linger) = codes "false " ++ decimal linger.process ++ 32 ∷ decimal linger.turn
reply_text names (replies.NotPurged modules) = codes "not_purged [" ++ join_with_byte 44 (map (λ m. atom_text names m.0) modules) ++ codes "]"
reply_text names (replies.Duplicated name) = codes "duplicated " ++ atom_text names name.0
reply_text names (replies.SystemLimit limit) = codes "system_limit " ++ limit_text limit

-- `@G` with the generation that was published, or `-`
abbrev pub published_text : Option ℕ → List ℕ
published_text None = codes "-"
published_text (Some generation) = codes "@" ++ decimal generation

-- the line of an entry
abbrev pub entry_text : List (List ℕ) → Entry → List ℕ
entry_text names e = line_of (codes "entry " ++ who_text e.who ++ codes " " ++ cmd_text names e.cmd ++ codes " = " ++ reply_text names e.reply ++ codes " " ++ published_text e.published)

-- what a process showed, as a line
abbrev pub shown_text : List (List ℕ) → Line → List ℕ
shown_text names (lines.Print term) = line_of (codes "print " ++ term_text names term)
shown_text names (lines.Trace to args) = line_of (codes "trace " ++ call_text names to args)

-- the lines of a span
abbrev pub span_text : List (List ℕ) → Span → List ℕ
span_text names span = line_of (codes "span " ++ decimal span.generation ++ codes " " ++ decimal span.turns) ++ flat_map (shown_text names) span.lines

-- the word of an end
abbrev pub end_text : List (List ℕ) → End → List ℕ
end_text names Normal = codes "normal"
end_text names (Undef to) = codes "undef " ++ mfa_text names to
end_text names Badarg = codes "badarg"
end_text names Badarith = codes "badarith"
end_text names SystemLimit = codes "system_limit"
end_text names (Killed serial) = codes "killed " ++ decimal serial

-- the lines of a process
abbrev pub process_text : List (List ℕ) → ℕ → ProcessLog → List ℕ
process_text names number log =
    line_of (codes "process " ++ decimal number ++ codes " " ++ call_text names log.target log.args) ++ flat_map (span_text names) log.spans ++ line_of (codes "end " ++ end_text names log.fin)

-- the lines of processes that are numbered from here on
abbrev pub processes_text : List (List ℕ) → ℕ → List ProcessLog → List ℕ
processes_text names number [] = []
processes_text names number (log ∷ logs) = process_text names number log ++ processes_text names (number + 1) logs

-- the line of an exported function
abbrev pub export_text : List (List ℕ) → Mfa × ℕ → List ℕ
export_text names export = line_of (codes "export " ++ mfa_text names export.0 ++ 32 ∷ decimal export.1)

-- the lines of a snapshot
abbrev pub snapshot_text : List (List ℕ) → Snapshot → List ℕ
snapshot_text names shot = line_of (codes "snapshot " ++ decimal shot.generation) ++ flat_map (export_text names) shot.exports

-- the lines of an observer
abbrev pub observer_text : List (List ℕ) → ℕ → List Snapshot → List ℕ
observer_text names number shots = line_of (codes "observer " ++ decimal number) ++ flat_map (snapshot_text names) shots

-- the lines of observers that are numbered from here on
abbrev pub observers_text : List (List ℕ) → ℕ → List (List Snapshot) → List ℕ
observers_text names number [] = []
observers_text names number (shots ∷ observers) = observer_text names number shots ++ observers_text names (number + 1) observers

-- the report of a log
abbrev pub rendering_of : List (List ℕ) → RunLog → List ℕ
rendering_of names log =
    line_of (codes "beam report 1") ++ line_of (codes "generations " ++ decimal (published_count log.journal)) ++ flat_map (entry_text names) log.journal ++ processes_text names 0 log.processes ++ observers_text names 0 log.observers ++ line_of (codes "end report")
