-- The answers of one line that more than one program gives, and why a call stops without one.
-- Source: this project's command line.
use Rattle.std.specs.Prelude.{◌≡◌, ℕ, List, ◌++◌, None, codes, decimal}
use Rattle.std.specs.declared.option.Option.{Option}
use Rattle.script_text.specs.declared.fault.ScriptFault.{ScriptFault}
use Rattle.script_text.specs.FaultText.{fault_text}
use Rattle.run_log.specs.declared.logs.RunLog.{RunLog}
use Rattle.run_log.specs.Report.{line_of}
use Rattle.outside.specs.declared.fault.ReadFault.{ReadFault}
use Rattle.outside.specs.declared.fault.ReadFault.TheVariants.{Failed, NoMemory}
use Rattle.outside.specs.declared.answer.Stop.{Stop}
use Rattle.outside.specs.declared.answer.Stop.TheVariants as stops
use Rattle.outside.specs.declared.answer.Stop.TheVariants.{SourceFault}

-- the line for a text that is refused, by its fault
abbrev pub refusal_text : ScriptFault → List ℕ
refusal_text f = line_of (fault_text f)

-- the line for a report whose first faulty line this is, counted from the first line of the report
abbrev pub report_syntax_text : ℕ → List ℕ
report_syntax_text line = line_of (codes "refused report " ++ decimal line ++ codes " syntax")

-- the answer of one line under a status
pub record IsLine (wanted : ℕ) (line : List ℕ) (status : ℕ) (log : Option RunLog) (text : List ℕ) : Type 0 where
  pub status_is : status ≡ wanted
  pub log_is : log ≡ None
  pub text_is : text ≡ line

-- why a call stops that found this fault of its source
abbrev pub StopsFor : ReadFault → Stop → Type 0
StopsFor Failed stop = stop ≡ SourceFault
StopsFor NoMemory stop = stop ≡ stops.NoMemory
