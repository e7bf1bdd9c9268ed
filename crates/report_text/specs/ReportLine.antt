-- The lines of a report, and those of a whole log, one after another.
-- Source: this project's report text. A law says that a log's rendering is just these lines, each with a line feed.
use Rattle.std.specs.Prelude.{ℕ, ◌+◌, List, [], ◌∷◌, ◌++◌, map, codes}
use Rattle.std.specs.List.{flat_map}
use Rattle.std.specs.Fmt.{decimal}
use Rattle.term_core.specs.declared.atom.Mfa.{Mfa}
use Rattle.term_core.specs.TermText.{term_text}
use Rattle.machine_core.specs.declared.process.Line.{Line}
use Rattle.machine_core.specs.declared.process.Line.TheVariants as shown
use Rattle.run_log.specs.declared.logs.Span.{Span}
use Rattle.run_log.specs.declared.logs.ProcessLog.{ProcessLog}
use Rattle.run_log.specs.declared.logs.Snapshot.{Snapshot}
use Rattle.run_log.specs.declared.logs.RunLog.{RunLog}
use Rattle.run_log.specs.Journal.{published_count}
use Rattle.run_log.specs.Report.{who_text, cmd_text, reply_text, published_text, call_text, end_text, mfa_text}
use Rattle.run_log.specs.WellFormed.{IsWide, IsEntryOf, IsCallOf, IsLineOf, IsEndOf, IsFunctionOf}
use Rattle.report_text.specs.declared.line.ReportLine.{ReportLine}
use Rattle.report_text.specs.declared.line.ReportLine.TheVariants.{Head, Generations, Entry as EntryLine, Process, Span as SpanLine, Shown, End, Observer, Snapshot as SnapshotLine, Export, Close}

-- what a process showed, without its line feed
abbrev pub shown_line_text : List (List ℕ) → Line → List ℕ
shown_line_text names (shown.Print term) = codes "print " ++ term_text names term
shown_line_text names (shown.Trace to args) = codes "trace " ++ call_text names to args

-- the text of a line, without its line feed
abbrev pub line_text : List (List ℕ) → ReportLine → List ℕ
line_text names Head = codes "beam report 1"
line_text names (Generations count) = codes "generations " ++ decimal count
line_text names (EntryLine e) = codes "entry " ++ who_text e.who ++ codes " " ++ cmd_text names e.cmd ++ codes " = " ++ reply_text names e.reply ++ codes " " ++ published_text e.published
line_text names (Process number target args) = codes "process " ++ decimal number ++ codes " " ++ call_text names target args
line_text names (SpanLine generation turns) = codes "span " ++ decimal generation ++ codes " " ++ decimal turns
line_text names (Shown line) = shown_line_text names line
line_text names (End fin) = codes "end " ++ end_text names fin
line_text names (Observer number) = codes "observer " ++ decimal number
line_text names (SnapshotLine generation) = codes "snapshot " ++ decimal generation
line_text names (Export function serial) = codes "export " ++ mfa_text names function ++ 32 ∷ decimal serial
line_text names Close = codes "end report"

-- a line that can be written
abbrev pub IsReportLine : List (List ℕ) → ReportLine → Type 0
IsReportLine names Head = Unit {0}
IsReportLine names (Generations count) = IsWide count
IsReportLine names (EntryLine e) = IsEntryOf names e
IsReportLine names (Process number target args) = IsWide number × IsCallOf names target args
IsReportLine names (SpanLine generation turns) = IsWide generation × IsWide turns
IsReportLine names (Shown line) = IsLineOf names line
IsReportLine names (End fin) = IsEndOf names fin
IsReportLine names (Observer number) = IsWide number
IsReportLine names (SnapshotLine generation) = IsWide generation
IsReportLine names (Export function serial) = IsFunctionOf names function × IsWide serial
IsReportLine names Close = Unit {0}

-- the lines of a span
abbrev pub span_lines : Span → List ReportLine
span_lines span = SpanLine span.generation span.turns ∷ map Shown span.lines

-- the lines of a process
abbrev pub process_lines : ℕ → ProcessLog → List ReportLine
process_lines number log = Process number log.target log.args ∷ (flat_map span_lines log.spans ++ End log.fin ∷ [])

-- the lines of processes that are numbered from here on
abbrev pub processes_lines : ℕ → List ProcessLog → List ReportLine
processes_lines number [] = []
processes_lines number (log ∷ logs) = process_lines number log ++ processes_lines (number + 1) logs

-- the line of an exported function
abbrev pub export_line : Mfa × ℕ → ReportLine
export_line export = Export export.0 export.1

-- the lines of a snapshot
abbrev pub snapshot_lines : Snapshot → List ReportLine
snapshot_lines shot = SnapshotLine shot.generation ∷ map export_line shot.exports

-- the lines of an observer
abbrev pub observer_lines : ℕ → List Snapshot → List ReportLine
observer_lines number shots = Observer number ∷ flat_map snapshot_lines shots

-- the lines of observers that are numbered from here on
abbrev pub observers_lines : ℕ → List (List Snapshot) → List ReportLine
observers_lines number [] = []
observers_lines number (shots ∷ observers) = observer_lines number shots ++ observers_lines (number + 1) observers

-- the lines of a log
abbrev pub log_lines : RunLog → List ReportLine
log_lines log =
    Head ∷ Generations (published_count log.journal) ∷ (map EntryLine log.journal ++ (processes_lines 0 log.processes ++ (observers_lines 0 log.observers ++ Close ∷ [])))

-- the bytes of lines, each with its line feed
abbrev pub lines_text : List (List ℕ) → List ReportLine → List ℕ
lines_text names [] = []
lines_text names (line ∷ lines) = line_text names line ++ 10 ∷ lines_text names lines
