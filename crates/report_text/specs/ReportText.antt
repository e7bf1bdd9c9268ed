-- What is wrong with a text that is no report: the first line after which no report goes on.
-- Source: this project's report text. It speaks of whole texts; the code reads line by line.
use Rattle.std.specs.Prelude.{◌≡◌, ℕ, ◌-◌, ◌<◌, ◌≤◌, ◌^◌, ◌⊎◌, List, ◌++◌, length, take, max}
use Rattle.term_core.specs.Text.Parts.{lines_of_text, all_lines, lines_joined}
use Rattle.run_log.specs.declared.logs.RunLog.{RunLog}
use Rattle.run_log.specs.Journal.{published_count}
use Rattle.run_log.specs.Report.{rendering_of}
use Rattle.run_log.specs.WellFormed.{IsWide, IsWellFormed}
use Rattle.report_text.specs.declared.fault.ReportFault.{ReportFault}
use Rattle.report_text.specs.declared.fault.ReportFault.TheVariants.{Syntax, NoMemory}

-- the numbers that a report counts up, of generations, processes and observers, have 64 bits: else a longer number would go on, to a log that
-- no list can hold
pub record AreCounted (log : RunLog) : Type 0 where
  pub generations : IsWide (published_count log.journal)
  pub processes : length log.processes ≤ 2 ^ 64
  pub observers : length log.observers ≤ 2 ^ 64

-- some report begins with these bytes
pub record GoesOn (names : List (List ℕ)) (bytes : List ℕ) : Type 0 where
  pub log : RunLog
  pub well_formed : IsWellFormed names log
  pub counted : AreCounted log
  pub rest : List ℕ
  pub whole : rendering_of names log ≡ bytes ++ rest

-- the ended lines of a text, so many from the front
abbrev pub first_lines : ℕ → List ℕ → List ℕ
first_lines count text = lines_joined (take count (lines_of_text text).ended)

-- the line with this number has ended, and no report goes on after it
pub record StopsAt (names : List (List ℕ)) (text : List ℕ) (line : ℕ) : Type 0 where
  pub some : 0 < line
  pub ended : line ≤ length (lines_of_text text).ended
  pub stops : GoesOn names (first_lines line text) → ⊥

-- the line with this number is the last, or 1 where there is none, and the text is no report
pub record EndsAt (names : List (List ℕ)) (text : List ℕ) (line : ℕ) : Type 0 where
  pub last : line ≡ max 1 (length (all_lines text))
  pub none : (log : RunLog) → IsWellFormed names log → rendering_of names log ≡ text → ⊥

-- the first line after which no report goes on, or the last line where the text only stops too early
pub record FaultAt (names : List (List ℕ)) (text : List ℕ) (line : ℕ) : Type 0 where
  pub before : GoesOn names (first_lines (line - 1) text)
  pub here : StopsAt names text line ⊎ EndsAt names text line

-- what each fault says of a text
abbrev pub FaultOf : List (List ℕ) → List ℕ → ReportFault → Type 0
FaultOf names text (Syntax line) = FaultAt names text line
FaultOf names text NoMemory = ⊥
