-- A text read line by line, up to its end or to the first line that may not stand there. Lines are counted from 1.
-- Source: this project's report text. What a report's text is stands in run_log; laws say that both agree.
use Rattle.std.specs.Prelude.{◌≡◌, ℕ, ◌+◌, ◌-◌, nat_lt, List, [], ◌∷◌, Option, Some, None, Result, Ok, Err, if◌then◌else◌}
use Rattle.term_core.specs.Text.Steps.{◌>>=◌}
use Rattle.term_core.specs.Text.Parts.{lines_of_text}
use Rattle.run_log.specs.declared.logs.RunLog.{RunLog}
use Rattle.report_text.specs.declared.fault.ReportFault.{ReportFault}
use Rattle.report_text.specs.declared.fault.ReportFault.TheVariants.{Syntax, NoMemory}
use Rattle.report_text.specs.declared.state.Stage.{Stage}
use Rattle.report_text.specs.declared.state.Stage.TheVariants.{Done}
use Rattle.report_text.specs.declared.state.ReportState.{ReportState}
use Rattle.report_text.specs.LineReading.{line_reading}
use Rattle.report_text.specs.Taking.{taken}

-- a refusal is that of the reading; want of memory is free
abbrev pub Fails : {A : Type 0} → Result A ReportFault → ReportFault → Type 0
Fails read (Syntax line) = read ≡ Err (Syntax line)
Fails read NoMemory = Unit {0}

-- what was answered, seen by view, is what is read, or its fault, unless memory was refused
abbrev pub Gives : {X A : Type 0} → (X → A) → Result X ReportFault → Result A ReportFault → Type 0
Gives view (Ok x) read = read ≡ Ok (view x)
Gives view (Err fault) read = Fails read fault

-- the state behind a line of the text, if it may stand there
abbrev pub line_taken : List (List ℕ) → ReportState → List ℕ → Option ReportState
line_taken names s text = line_reading names text >>= λ line. taken s line

-- what was taken, or the fault of this line
abbrev pub numbered : {A : Type 0} → ℕ → Option A → Result A ReportFault
numbered number None = Err (Syntax number)
numbered number (Some x) = Ok x

-- the log, where the report has ended
abbrev pub ended_log : ℕ → RunLog → Stage → Result RunLog ReportFault
ended_log number log Done = Ok log
ended_log number log stage = Err (Syntax number)

-- the number of the last line where the next one would have this number, or 1 where there is none
abbrev pub last_number : ℕ → ℕ
last_number next = if nat_lt 1 next then next - 1 else 1

-- the log behind the lines that have ended; bytes without a line feed are a last line
abbrev pub text_ended : ℕ → ReportState → List ℕ → Result RunLog ReportFault
text_ended next s [] = ended_log (last_number next) s.log s.stage
text_ended next s (c ∷ tail) = Err (Syntax next)

-- what is read on from a state, if there is one, or the fault of this line
abbrev pub on_from : ℕ → Option ReportState → (ReportState → Result RunLog ReportFault) → Result RunLog ReportFault
on_from number None more = Err (Syntax number)
on_from number (Some s) more = more s

-- the log of the lines from a state on
abbrev pub lines_on : List (List ℕ) → ReportState → ℕ → List (List ℕ) → List ℕ → Result RunLog ReportFault
lines_on names s number [] tail = text_ended number s tail
lines_on names s number (line ∷ lines) tail = on_from number (line_taken names s line) (λ next. lines_on names next (number + 1) lines tail)

-- the log of the bytes from a state on
abbrev pub bytes_on : List (List ℕ) → ReportState → ℕ → List ℕ → Result RunLog ReportFault
bytes_on names s number text = lines_on names s number (lines_of_text text).ended (lines_of_text text).tail
