-- A report line by line: what is read of its log so far, which lines may follow, and what each adds.
-- Source: this project's report text. The lines of a whole log stand in ReportLine; laws say that just those are taken.
use Rattle.std.specs.Prelude.{ℕ, ◌-◌, ◌==◌, ◌&&◌, not, nat_lt, Bool, true, false, List, [], ◌∷◌, ◌++◌, length, Option, Some, None, if◌then◌else◌}
use Rattle.term_core.specs.declared.atom.Mfa.{Mfa}
use Rattle.term_core.specs.PlainTerm.{PlainTerm}
use Rattle.machine_core.specs.declared.process.Line.{Line}
use Rattle.machine_core.specs.declared.process.End.{End}
use Rattle.machine_core.specs.declared.process.End.TheVariants.{Normal}
use Rattle.term_core.specs.Text.Steps.{◌>>=◌}
use Rattle.run_log.specs.declared.logs.Entry.{Entry}
use Rattle.run_log.specs.declared.logs.Span.{Span}
use Rattle.run_log.specs.declared.logs.ProcessLog.{ProcessLog}
use Rattle.run_log.specs.declared.logs.Snapshot.{Snapshot}
use Rattle.run_log.specs.declared.logs.RunLog.{RunLog}
use Rattle.report_text.specs.declared.line.ReportLine.{ReportLine}
use Rattle.report_text.specs.declared.line.ReportLine.TheVariants as lines
use Rattle.report_text.specs.declared.state.Stage.{Stage}
use Rattle.report_text.specs.declared.state.Stage.TheVariants.{Head, Count, Entries, Processes, Process, Observer, Done}
use Rattle.report_text.specs.declared.state.ReportState.{ReportState}

-- a log and a place in it
abbrev pub at : RunLog → Stage → ReportState
at log stage = record { log = log; stage = stage }

-- the log of nothing
abbrev pub empty_log : RunLog
empty_log = record { journal = []; processes = []; observers = [] }

-- nothing is read yet
abbrev pub report_opening : ReportState
report_opening = at empty_log Head

-- the head stands first
abbrev pub head_taken : RunLog → Stage → Option ReportState
head_taken log Head = Some (at log Count)
head_taken log stage = None

-- the count of generations stands behind it
abbrev pub count_taken : RunLog → Stage → ℕ → Option ReportState
count_taken log Count count = Some (at log (Entries count))
count_taken log stage count = None

-- ---- entries

-- how many entries are still to publish behind one
abbrev pub count_after : ℕ → Option ℕ → Option ℕ
count_after left None = Some left
count_after left (Some generation) = if left == 0 then None else Some (left - 1)

-- a log with one more entry
abbrev pub with_entry : RunLog → Entry → RunLog
with_entry log e = record log { journal = log.journal ++ e ∷ [] }

-- an entry stands behind the count and other entries
abbrev pub entry_taken : RunLog → Stage → Entry → Option ReportState
entry_taken log (Entries left) e = count_after left e.published >>= λ more. Some (at (with_entry log e) (Entries more))
entry_taken log stage e = None

-- ---- processes

-- whether a process may begin: all entries that publish are there, and no process goes on
abbrev pub may_begin : Stage → Bool
may_begin (Entries left) = left == 0
may_begin Processes = true
may_begin stage = false

-- a process without a span, as if it ended here
abbrev pub process_begun : Mfa → List PlainTerm → ProcessLog
process_begun target args = record { target = target; args = args; spans = []; fin = Normal }

-- a process begins with the next number
abbrev pub process_behind : RunLog → ℕ → Mfa → List PlainTerm → Option ReportState
process_behind log number target args = if number == length log.processes then Some (at log (Process (process_begun target args) None)) else None

-- a process begins where no other goes on
abbrev pub process_taken : RunLog → Stage → ℕ → Mfa → List PlainTerm → Option ReportState
process_taken log stage number target args = if may_begin stage then process_behind log number target args else None

-- a list with the one that went on
abbrev pub with_going : {X : Type 0} → List X → Option X → List X
with_going xs None = xs
with_going xs (Some x) = xs ++ x ∷ []

-- a process with the span that went on
abbrev pub spans_closed : ProcessLog → Option Span → ProcessLog
spans_closed process going = record process { spans = with_going process.spans going }

-- whether a span has a turn, and another generation than the one before it
abbrev pub span_may_follow : Option Span → ℕ → ℕ → Bool
span_may_follow None generation turns = nat_lt 0 turns
span_may_follow (Some span) generation turns = nat_lt 0 turns && not (span.generation == generation)

-- a span stands in a process
abbrev pub span_taken : RunLog → Stage → ℕ → ℕ → Option ReportState
span_taken log (Process process going) generation turns =
    if span_may_follow going generation turns then Some (at log (Process (spans_closed process going) (Some (record { generation = generation; turns = turns; lines = [] })))) else None
span_taken log stage generation turns = None

-- a span with one more line
abbrev pub with_line : Span → Line → Span
with_line span line = record span { lines = span.lines ++ line ∷ [] }

-- what is shown stands in a span
abbrev pub shown_in : RunLog → ProcessLog → Option Span → Line → Option ReportState
shown_in log process None line = None
shown_in log process (Some span) line = Some (at log (Process process (Some (with_line span line))))

-- what is shown stands in a process
abbrev pub shown_taken : RunLog → Stage → Line → Option ReportState
shown_taken log (Process process going) line = shown_in log process going line
shown_taken log stage line = None

-- a process that ended so
abbrev pub process_ended : ProcessLog → End → ProcessLog
process_ended process fin = record process { fin = fin }

-- a log with one more process
abbrev pub with_process : RunLog → ProcessLog → RunLog
with_process log process = record log { processes = log.processes ++ process ∷ [] }

-- an end stands in a process
abbrev pub end_taken : RunLog → Stage → End → Option ReportState
end_taken log (Process process going) fin = Some (at (with_process log (process_ended (spans_closed process going) fin)) Processes)
end_taken log stage fin = None

-- ---- observers

-- a log with one more observer
abbrev pub with_observer : RunLog → List Snapshot → RunLog
with_observer log shots = record log { observers = log.observers ++ shots ∷ [] }

-- a log with an observer and the snapshot that went on
abbrev pub shots_closed : RunLog → List Snapshot → Option Snapshot → RunLog
shots_closed log shots going = with_observer log (with_going shots going)

-- the log where an observer may begin, or the report end: with the observer that went on, if there is one
abbrev pub observers_closed : RunLog → Stage → Option RunLog
observers_closed log (Entries left) = if left == 0 then Some log else None
observers_closed log Processes = Some log
observers_closed log (Observer shots going) = Some (shots_closed log shots going)
observers_closed log stage = None

-- an observer begins with the next number
abbrev pub observer_behind : RunLog → ℕ → Option ReportState
observer_behind log number = if number == length log.observers then Some (at log (Observer [] None)) else None

-- an observer begins where no process goes on
abbrev pub observer_taken : RunLog → Stage → ℕ → Option ReportState
observer_taken log stage number = observers_closed log stage >>= λ closed. observer_behind closed number

-- a snapshot stands in an observer
abbrev pub snapshot_taken : RunLog → Stage → ℕ → Option ReportState
snapshot_taken log (Observer shots going) generation = Some (at log (Observer (with_going shots going) (Some (record { generation = generation; exports = [] }))))
snapshot_taken log stage generation = None

-- a snapshot with one more export
abbrev pub with_export : Snapshot → Mfa → ℕ → Snapshot
with_export shot function serial = record shot { exports = shot.exports ++ (function, serial) ∷ [] }

-- an export stands in a snapshot
abbrev pub export_in : RunLog → List Snapshot → Option Snapshot → Mfa → ℕ → Option ReportState
export_in log shots None function serial = None
export_in log shots (Some shot) function serial = Some (at log (Observer shots (Some (with_export shot function serial))))

-- an export stands in an observer
abbrev pub export_taken : RunLog → Stage → Mfa → ℕ → Option ReportState
export_taken log (Observer shots going) function serial = export_in log shots going function serial
export_taken log stage function serial = None

-- the last line stands where no process goes on
abbrev pub close_taken : RunLog → Stage → Option ReportState
close_taken log stage = observers_closed log stage >>= λ closed. Some (at closed Done)

-- ---- any line

-- the state behind a line, if it may stand there
abbrev pub taken : ReportState → ReportLine → Option ReportState
taken s lines.Head = head_taken s.log s.stage
taken s (lines.Generations count) = count_taken s.log s.stage count
taken s (lines.Entry e) = entry_taken s.log s.stage e
taken s (lines.Process number target args) = process_taken s.log s.stage number target args
taken s (lines.Span generation turns) = span_taken s.log s.stage generation turns
taken s (lines.Shown line) = shown_taken s.log s.stage line
taken s (lines.End fin) = end_taken s.log s.stage fin
taken s (lines.Observer number) = observer_taken s.log s.stage number
taken s (lines.Snapshot generation) = snapshot_taken s.log s.stage generation
taken s (lines.Export function serial) = export_taken s.log s.stage function serial
taken s lines.Close = close_taken s.log s.stage

-- the state behind lines
abbrev pub all_taken : ReportState → List ReportLine → Option ReportState
all_taken s [] = Some s
all_taken s (line ∷ more) = taken s line >>= λ next. all_taken next more
