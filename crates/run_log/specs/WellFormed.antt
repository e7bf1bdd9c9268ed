-- The logs that a report can show: each atom has a name, each number fits its field, and what the text says once stands in the log in both places.
-- Source: this project's report text. It says nothing of whether the log is lawful; the definition looks at each part by itself.
use Rattle.std.specs.Prelude.{◌≡◌, ℕ, ◌^◌, ◌<◌, ◌≤◌, Bool, true, false, List, length, Option, Some, None, IfSome}
use Rattle.std.specs.List.{AllByRecursion}
use Rattle.term_core.specs.declared.atom.AtomId.{AtomId}
use Rattle.term_core.specs.declared.atom.Mfa.{Mfa}
use Rattle.term_core.specs.Plain.{plain}
use Rattle.term_core.specs.PlainTerm.{PlainTerm}
use Rattle.mod_core.specs.declared.code.TheConstants.{MOST_ARGUMENTS, GREATEST_VERSION}
use Rattle.server_core.specs.declared.command.ModRef.{ModRef}
use Rattle.server_core.specs.declared.command.Linger.{Linger}
use Rattle.server_core.specs.declared.command.Cmd.{Cmd}
use Rattle.server_core.specs.declared.command.Cmd.TheVariants as cmds
use Rattle.server_core.specs.declared.command.Reply.{Reply}
use Rattle.server_core.specs.declared.command.Reply.TheVariants as replies
use Rattle.machine_core.specs.declared.process.Line.{Line}
use Rattle.machine_core.specs.declared.process.Line.TheVariants as lines
use Rattle.machine_core.specs.declared.process.End.{End}
use Rattle.machine_core.specs.declared.process.End.TheVariants as ends
use Rattle.script_core.specs.Sound.{IsTermOf, IsPutOf}
use Rattle.run_log.specs.declared.logs.Who.{Who}
use Rattle.run_log.specs.declared.logs.Who.TheVariants.{Loader, Runtime}
use Rattle.run_log.specs.declared.logs.Entry.{Entry}
use Rattle.run_log.specs.declared.logs.Span.{Span}
use Rattle.run_log.specs.declared.logs.ProcessLog.{ProcessLog}
use Rattle.run_log.specs.declared.logs.Snapshot.{Snapshot}
use Rattle.run_log.specs.declared.logs.RunLog.{RunLog}
use Rattle.run_log.specs.WholeSpans.{AreWhole}

-- a number of a generation, of an area, or of turns
abbrev pub IsWide : ℕ → Type 0
IsWide number = number < 2 ^ 64

-- a number of a loader, of a process, or of a turn in a reply
abbrev pub IsNarrow : ℕ → Type 0
IsNarrow number = number < 2 ^ 32

-- the atom has a name
abbrev pub IsNamed : List (List ℕ) → AtomId → Type 0
IsNamed names atom = atom.0 < length names

-- a function whose atoms have names, of an arity that can be written
pub record IsFunctionOf (names : List (List ℕ)) (to : Mfa) : Type 0 where
  pub module_named : IsNamed names to.«module»
  pub name_named : IsNamed names to.name
  pub few : to.arity ≤ MOST_ARGUMENTS

-- a call of such a function, with as many terms as its arity
pub record IsCallOf (names : List (List ℕ)) (to : Mfa) (args : List PlainTerm) : Type 0 where
  pub function : IsFunctionOf names to
  pub arity_is : length args ≡ to.arity
  pub each : AllByRecursion (IsTermOf names) args

-- a module and a version that can be written
pub record IsReferenceOf (names : List (List ℕ)) (r : ModRef) : Type 0 where
  pub named : IsNamed names r.name
  pub some : 0 < r.version
  pub few : r.version ≤ GREATEST_VERSION

-- a command that can be written: a load has a module
abbrev pub IsCommandOf : List (List ℕ) → Cmd → Type 0
IsCommandOf names (cmds.Load refs) = (0 < length refs) × AllByRecursion (IsReferenceOf names) refs
IsCommandOf names (cmds.Delete name) = IsNamed names name
IsCommandOf names (cmds.SoftPurge name lingers) = IsNamed names name
IsCommandOf names (cmds.Doom name) = IsNamed names name
IsCommandOf names (cmds.Purge name killed) = IsNamed names name
IsCommandOf names (cmds.CheckOld name) = IsNamed names name
IsCommandOf names (cmds.Put key term) = IsPutOf names key.0 (plain term)
IsCommandOf names (cmds.Erase key) = IsNamed names key
IsCommandOf names (cmds.Trace target on) = IsFunctionOf names target
IsCommandOf names (cmds.Spawn target args) = IsCallOf names target args
IsCommandOf names (cmds.Release serial) = IsWide serial

-- a process and a turn that can be written
pub record IsLingerOf (linger : Linger) : Type 0 where
  pub process : IsNarrow linger.process
  pub turn : IsNarrow linger.turn

-- a reply that can be written
abbrev pub IsReplyOf : List (List ℕ) → Reply → Type 0
IsReplyOf names (replies.FalseBy linger) = IsLingerOf linger
IsReplyOf names (replies.NotPurged modules) = AllByRecursion (IsNamed names) modules
IsReplyOf names (replies.Duplicated name) = IsNamed names name
IsReplyOf names _ = Unit {0}

-- the process that a reply says lingers
abbrev pub lingering_in : Reply → Option Linger
lingering_in (replies.FalseBy linger) = Some linger
lingering_in _ = None

-- whether a reply is `true`
abbrev pub is_true_reply : Reply → Bool
is_true_reply replies.True = true
is_true_reply _ = false

-- a command has of what processes did just what the reply tells: a soft purge which one lingers, a purge whether one was killed
abbrev pub Agrees : Cmd → Reply → Type 0
Agrees (cmds.SoftPurge name lingers) reply = lingers ≡ lingering_in reply
Agrees (cmds.Purge name killed) reply = killed ≡ is_true_reply reply
Agrees _ reply = Unit {0}

-- a loader that can be written
abbrev pub IsWhoOf : Who → Type 0
IsWhoOf (Loader number) = IsNarrow number
IsWhoOf Runtime = Unit {0}

-- an entry that can be written
pub record IsEntryOf (names : List (List ℕ)) (e : Entry) : Type 0 where
  pub who : IsWhoOf e.who
  pub command : IsCommandOf names e.cmd
  pub reply : IsReplyOf names e.reply
  pub agrees : Agrees e.cmd e.reply
  pub published : IfSome e.published IsWide

-- what a process showed, as it can be written
abbrev pub IsLineOf : List (List ℕ) → Line → Type 0
IsLineOf names (lines.Print term) = IsTermOf names (plain term)
IsLineOf names (lines.Trace to args) = IsCallOf names to args

-- a span that can be written
pub record IsSpanOf (names : List (List ℕ)) (span : Span) : Type 0 where
  pub generation : IsWide span.generation
  pub turns : IsWide span.turns
  pub lines_are : AllByRecursion (IsLineOf names) span.lines

-- an end that can be written
abbrev pub IsEndOf : List (List ℕ) → End → Type 0
IsEndOf names (ends.Undef to) = IsFunctionOf names to
IsEndOf names (ends.Killed serial) = IsWide serial
IsEndOf names _ = Unit {0}

-- a process log that can be written: each span has a turn, and neighbours are under different generations
pub record IsProcessOf (names : List (List ℕ)) (process : ProcessLog) : Type 0 where
  pub call : IsCallOf names process.target process.args
  pub whole : AreWhole process.spans
  pub spans : AllByRecursion (IsSpanOf names) process.spans
  pub fin : IsEndOf names process.fin

-- an export that can be written
pub record IsExportOf (names : List (List ℕ)) (export : Mfa × ℕ) : Type 0 where
  pub function : IsFunctionOf names export.0
  pub serial : IsWide export.1

-- a snapshot that can be written
pub record IsSnapshotOf (names : List (List ℕ)) (shot : Snapshot) : Type 0 where
  pub generation : IsWide shot.generation
  pub exports : AllByRecursion (IsExportOf names) shot.exports

-- a log that a report can show
pub record IsWellFormed (names : List (List ℕ)) (log : RunLog) : Type 0 where
  pub journal : AllByRecursion (IsEntryOf names) log.journal
  pub processes : AllByRecursion (IsProcessOf names) log.processes
  pub observers : AllByRecursion (λ shots. AllByRecursion (IsSnapshotOf names) shots) log.observers
