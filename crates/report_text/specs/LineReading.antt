-- How the lines of a report are read, by their words.
-- Source: this project's report text. The texts stand in ReportLine; laws say that both agree.
use Rattle.std.specs.Prelude.{ℕ, List, Option, Some, None, bytes_eq, codes, if◌then◌else◌}
use Rattle.term_core.specs.Plain.{term_of}
use Rattle.machine_core.specs.declared.process.Line.TheVariants as shown
use Rattle.machine_core.specs.declared.process.End.{End}
use Rattle.machine_core.specs.declared.process.End.TheVariants as ends
use Rattle.term_core.specs.Text.Steps.{◌>>=◌}
use Rattle.term_core.specs.Text.Cuts.{cut_at}
use Rattle.report_text.specs.declared.line.ReportLine.{ReportLine}
use Rattle.report_text.specs.declared.line.ReportLine.TheVariants as lines
use Rattle.term_core.specs.Text.Words.{number_reading}
use Rattle.report_text.specs.TermReading.{paired, plain_reading, function_reading, call_reading}
use Rattle.report_text.specs.EntryReading.{entry_reading}

-- the end with this word and more
abbrev pub worded_end : List (List ℕ) → List ℕ → List ℕ → Option End
worded_end names word text =
    if bytes_eq word (codes "undef") then (function_reading names text >>= λ to. Some (ends.Undef to))
    else (if bytes_eq word (codes "killed") then (number_reading text >>= λ serial. Some (ends.Killed serial)) else None)

-- an end of a word and more
abbrev pub longer_end : List (List ℕ) → List ℕ → Option End
longer_end names text = cut_at 32 text >>= λ sides. worded_end names sides.0 sides.1

-- an end
abbrev pub end_reading : List (List ℕ) → List ℕ → Option End
end_reading names text =
    if bytes_eq text (codes "normal") then Some ends.Normal
    else (if bytes_eq text (codes "badarg") then Some ends.Badarg
    else (if bytes_eq text (codes "badarith") then Some ends.Badarith
    else (if bytes_eq text (codes "system_limit") then Some ends.SystemLimit else longer_end names text)))

-- the beginning of a process
abbrev pub process_reading : List (List ℕ) → List ℕ → Option ReportLine
process_reading names text = paired 32 number_reading (call_reading names) text >>= λ p. Some (lines.Process p.0 p.1.target p.1.args)

-- a span
abbrev pub span_reading : List ℕ → Option ReportLine
span_reading text = paired 32 number_reading number_reading text >>= λ p. Some (lines.Span p.0 p.1)

-- an exported function
abbrev pub export_reading : List (List ℕ) → List ℕ → Option ReportLine
export_reading names text = paired 32 (function_reading names) number_reading text >>= λ p. Some (lines.Export p.0 p.1)

-- a term that was printed
abbrev pub print_reading : List (List ℕ) → List ℕ → Option ReportLine
print_reading names text = plain_reading names text >>= λ term. Some (lines.Shown (shown.Print (term_of term)))

-- a call that was traced
abbrev pub trace_line_reading : List (List ℕ) → List ℕ → Option ReportLine
trace_line_reading names text = call_reading names text >>= λ call. Some (lines.Shown (shown.Trace call.target call.args))

-- the line of a word with this number
abbrev pub numbered_line : List ℕ → ℕ → Option ReportLine
numbered_line word number =
    if bytes_eq word (codes "generations") then Some (lines.Generations number)
    else (if bytes_eq word (codes "observer") then Some (lines.Observer number)
    else (if bytes_eq word (codes "snapshot") then Some (lines.Snapshot number) else None))

-- a line of a word and a number
abbrev pub number_line : List ℕ → List ℕ → Option ReportLine
number_line word text = number_reading text >>= λ number. numbered_line word number

-- a line without terms, by its word
abbrev pub plain_line : List (List ℕ) → List ℕ → List ℕ → Option ReportLine
plain_line names word text =
    if bytes_eq word (codes "span") then span_reading text
    else (if bytes_eq word (codes "end") then (end_reading names text >>= λ fin. Some (lines.End fin))
    else (if bytes_eq word (codes "export") then export_reading names text else number_line word text))

-- the line with this word
abbrev pub worded_line : List (List ℕ) → List ℕ → List ℕ → Option ReportLine
worded_line names word text =
    if bytes_eq word (codes "entry") then (entry_reading names text >>= λ entry. Some (lines.Entry entry))
    else (if bytes_eq word (codes "process") then process_reading names text
    else (if bytes_eq word (codes "print") then print_reading names text
    else (if bytes_eq word (codes "trace") then trace_line_reading names text else plain_line names word text)))

-- a line of a word and more
abbrev pub longer_line : List (List ℕ) → List ℕ → Option ReportLine
longer_line names text = cut_at 32 text >>= λ sides. worded_line names sides.0 sides.1

-- a line, without its line feed
abbrev pub line_reading : List (List ℕ) → List ℕ → Option ReportLine
line_reading names text =
    if bytes_eq text (codes "beam report 1") then Some lines.Head
    else (if bytes_eq text (codes "end report") then Some lines.Close else longer_line names text)
