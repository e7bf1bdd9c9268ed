-- What the input of a check is: a script, and behind it a report; and what of an input was read.
-- Source: this project's command line.
use Rattle.std.specs.Prelude.{◌≡◌, ◌⊎◌, ℕ, ◌<◌, ◌≤◌, List, [], ◌++◌, length, Some, IfSome, OnSome}
use Rattle.std.specs.declared.option.Option.{Option}
use Rattle.script_core.specs.declared.script.Script.{Script}
use Rattle.script_core.specs.Sound.{IsScript}
use Rattle.script_text.specs.declared.fault.ScriptFault.{ScriptFault}
use Rattle.script_text.specs.declared.fault.ScriptFault.TheVariants as script_faults
use Rattle.script_text.specs.ScriptText.{ScriptText, FaultOf}
use Rattle.run_log.specs.declared.logs.RunLog.{RunLog}
use Rattle.run_log.specs.Report.{rendering_of}
use Rattle.run_log.specs.WellFormed.{IsWellFormed}
use Rattle.report_text.specs.declared.fault.ReportFault.{ReportFault}
use Rattle.report_text.specs.declared.fault.ReportFault.TheVariants as report_faults
use Rattle.report_text.specs.ReportText.{FaultOf as ReportFaultOf}
use Rattle.outside.specs.Parting.{script_part, report_part}
use Rattle.outside.specs.declared.check_input.CheckInput.{CheckInput}
use Rattle.outside.specs.declared.check_input.CheckInput.TheVariants.{Read, ScriptRefused, ReportRefused}

-- the bytes are the text of no script
abbrev pub IsNoScript : List ℕ → Type 0
IsNoScript bytes = (s : Script) → ScriptText bytes s → ⊥

-- the bytes have no fault of a script's text
abbrev pub HasNoFault : List ℕ → Type 0
HasNoFault bytes = (f : ScriptFault) → FaultOf bytes f → ⊥

-- the bytes are the text of this script and of no other, and have no fault
pub record IsScriptRead (bytes : List ℕ) (s : Script) : Type 0 where
  pub text : ScriptText bytes s
  pub only : (other : Script) → ScriptText bytes other → other ≡ s
  pub sane : HasNoFault bytes

-- the text is the report of this log, whose atoms have these names
pub record IsReportOf (names : List (List ℕ)) (text : List ℕ) (log : RunLog) : Type 0 where
  pub formed : IsWellFormed names log
  pub text_is : rendering_of names log ≡ text

-- the text is the report of no log, with the atoms of these names
abbrev pub IsNoReport : List (List ℕ) → List ℕ → Type 0
IsNoReport names text = (log : RunLog) → IsReportOf names text log → ⊥

-- the text has no fault of a report
abbrev pub HasNoReportFault : List (List ℕ) → List ℕ → Type 0
HasNoReportFault names text = (f : ReportFault) → ReportFaultOf names text f → ⊥

-- the text is the report of this log and of no other, and has no fault
pub record IsReportRead (names : List (List ℕ)) (text : List ℕ) (log : RunLog) : Type 0 where
  pub report : IsReportOf names text log
  pub only : (other : RunLog) → IsReportOf names text other → other ≡ log
  pub sane : HasNoReportFault names text

-- the bytes are the text of this script, and behind it the report of this log
pub record HasScriptAndReport (bytes : List ℕ) (s : Script) (log : RunLog) : Type 0 where
  pub front : List ℕ
  pub behind : List ℕ
  pub whole : bytes ≡ front ++ behind
  pub text : ScriptText front s
  pub report : IsReportOf s.names behind log

-- the bytes are the text of this script, and what stands behind it is a report with this fault
pub record HasFaultyReport (bytes : List ℕ) (s : Script) (f : ReportFault) : Type 0 where
  pub front : List ℕ
  pub behind : List ℕ
  pub whole : bytes ≡ front ++ behind
  pub text : ScriptText front s
  pub fault : ReportFaultOf s.names behind f

-- what was left of the source is over the limit
abbrev pub IsTooLong : ℕ → Option (List ℕ) → Type 0
IsTooLong limit left = IfSome left (λ bytes. limit < length bytes)

-- the source was read to its end, and these are its bytes, within the limit
pub record WasRead (limit : ℕ) (left left_after : Option (List ℕ)) (bytes : List ℕ) : Type 0 where
  pub told : IfSome left (λ told. told ≡ bytes)
  pub to_end : OnSome left (left_after ≡ Some [])
  pub short : length bytes ≤ limit

-- the script's part of an input is this script's text, and what stands behind it this log's report
pub record AreRead (bytes : List ℕ) (s : Script) (log : RunLog) : Type 0 where
  pub script : IsScriptRead (script_part bytes) s
  pub sound : IsScript s
  pub report : IsReportRead s.names (report_part bytes) log

-- the script's part of an input is no script's text, and has this fault, or memory was refused
pub record IsScriptRefused (bytes : List ℕ) (f : ScriptFault) : Type 0 where
  pub fault : FaultOf (script_part bytes) f ⊎ (f ≡ script_faults.NoMemory)
  pub none : (s : Script) → ScriptText (script_part bytes) s → f ≡ script_faults.NoMemory

-- the script's part of an input is a script's text, and what stands behind it is no report, and has its first fault in this line
pub record IsReportRefused (bytes : List ℕ) (line : ℕ) : Type 0 where
  pub script : Script
  pub read : IsScriptRead (script_part bytes) script
  pub fault : ReportFaultOf script.names (report_part bytes) (report_faults.Syntax line)
  pub none : IsNoReport script.names (report_part bytes)

-- what an input was read as
abbrev pub IsReadAs : List ℕ → CheckInput → Type 0
IsReadAs bytes (Read s log) = AreRead bytes s log
IsReadAs bytes (ScriptRefused f) = IsScriptRefused bytes f
IsReadAs bytes (ReportRefused line) = IsReportRefused bytes line
