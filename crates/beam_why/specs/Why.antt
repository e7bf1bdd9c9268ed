-- What the program that says why comes to: for each status what it was answered for and what was written.
-- What is said of the source's or the sink's bytes holds where these are told.
-- Source: this project's command line.
use Rattle.std.specs.Prelude.{◌≡◌, ℕ, List, ◌++◌, codes}
use Rattle.std.specs.declared.option.Option.{Option}
use Rattle.std.specs.Io.KnownBytes.{Appends}
use Rattle.script_core.specs.declared.script.Script.{Script}
use Rattle.script_text.specs.declared.fault.ScriptFault.{ScriptFault}
use Rattle.script_text.specs.declared.fault.ScriptFault.TheVariants as faults
use Rattle.script_text.specs.ScriptText.{FaultOf}
use Rattle.run_log.specs.declared.logs.RunLog.{RunLog}
use Rattle.run_log.specs.Report.{line_of}
use Rattle.run_log.specs.Legal.{Legal}
use Rattle.legality.specs.declared.breach.Clause.{Clause}
use Rattle.legality.specs.declared.breach.Clause.TheVariants as clauses
use Rattle.legality.specs.Breaches.{ClauseHolds}
use Rattle.outside.specs.declared.check_input.TheConstants.{LONGEST_CHECK}
use Rattle.outside.specs.declared.answer.Answer.{Answer}
use Rattle.outside.specs.Answers.{refusal_text, report_syntax_text}
use Rattle.outside.specs.Inputs.{AreRead, IsNoScript, IsReportRefused, IsTooLong, WasRead}
use Rattle.outside.specs.Outside.{GetsPrefix, Rose}
use Rattle.outside.specs.Parting.{script_part}

-- the name of a clause, as the definition of a lawful log has it
abbrev pub clause_name : Clause → List ℕ
clause_name clauses.Replays = codes "Replays"
clause_name clauses.LoadersInOrder = codes "LoadersInOrder"
clause_name clauses.SpawnBeforeTurns = codes "SpawnBeforeTurns"
clause_name clauses.TurnsFollow = codes "TurnsFollow"
clause_name clauses.ReleasedUnnamed = codes "ReleasedUnnamed"
clause_name clauses.LingersTold = codes "LingersTold"
clause_name clauses.PurgedUnnamed = codes "PurgedUnnamed"
clause_name clauses.SnapshotsTrue = codes "SnapshotsTrue"
clause_name clauses.NothingRetired = codes "NothingRetired"
clause_name clauses.Complete = codes "Complete"

-- the line for a report of a lawful log
abbrev pub lawful_text : List ℕ
lawful_text = line_of (codes "lawful")

-- how the text for a broken clause begins; where and what was expected stand behind
abbrev pub broken_front : Clause → List ℕ
broken_front clause = codes "not lawful: " ++ clause_name clause

-- the answer for a broken clause: its status, and a text that begins with the clause's name
pub record IsBrokenAnswer (clause : Clause) (a : Answer) : Type 0 where
  pub status_is : a.status ≡ 1
  pub rest : List ℕ
  pub text_is : a.text ≡ broken_front clause ++ rest

-- the answer to a log: it is lawful, or a clause of a lawful log is named that does not hold
pub data LogVerdict (s : Script) (log : RunLog) : ℕ → List ℕ → Type 0 where
  lawful : Legal s log → LogVerdict s log 0 lawful_text
  broken : (clause : Clause) (rest : List ℕ) → (ClauseHolds clause s log → ⊥) → LogVerdict s log 1 (broken_front clause ++ rest)

-- the answer to the bytes that were read: that to the log, or the fault of the script's part or of the report, as of a check
pub data WhyVerdict (bytes : List ℕ) : ℕ → List ℕ → Type 0 where
  script_refused : (f : ScriptFault) → FaultOf (script_part bytes) f → IsNoScript (script_part bytes) → WhyVerdict bytes 3 (refusal_text f)
  report_refused : (line : ℕ) → IsReportRefused bytes line → WhyVerdict bytes 3 (report_syntax_text line)
  judged : (s : Script) (log : RunLog) (status : ℕ) (text : List ℕ) → AreRead bytes s log → LogVerdict s log status text → WhyVerdict bytes status text

-- the answer to an input: that to its bytes, or the line for a text over the limit
pub data ReadVerdict (left left_after : Option (List ℕ)) : ℕ → List ℕ → Type 0 where
  whole_text : (bytes : List ℕ) (status : ℕ) (text : List ℕ) → WasRead LONGEST_CHECK left left_after bytes → WhyVerdict bytes status text → ReadVerdict left left_after status text
  long_text : IsTooLong LONGEST_CHECK left → ReadVerdict left left_after 3 (refusal_text faults.FileTooLong)

-- a text was written whole under its status, or the sink failed within it
pub data Delivered (got got_after : Option (List ℕ)) (faults faults_after : ℕ) (status : ℕ) (text : List ℕ) : ℕ → Type 0 where
  whole : Appends got got_after text → Delivered got got_after faults faults_after status text status
  cut : Rose faults faults_after → GetsPrefix got got_after text → Delivered got got_after faults faults_after status text 5

-- how a call ended: its text was written whole, or the sink or the source failed, or memory was refused
pub data WhyEnds (left left_after : Option (List ℕ)) (source_faults source_faults_after : ℕ) (got got_after : Option (List ℕ)) (sink_faults sink_faults_after : ℕ) : ℕ → Type 0 where
  written : (status : ℕ) (text : List ℕ) → ReadVerdict left left_after status text → Appends got got_after text → WhyEnds left left_after source_faults source_faults_after got got_after sink_faults sink_faults_after status
  cut_off : (status : ℕ) (text : List ℕ) → ReadVerdict left left_after status text → Rose sink_faults sink_faults_after → GetsPrefix got got_after text
      → WhyEnds left left_after source_faults source_faults_after got got_after sink_faults sink_faults_after 5
  source_failed : Rose source_faults source_faults_after → WhyEnds left left_after source_faults source_faults_after got got_after sink_faults sink_faults_after 4
  no_memory : WhyEnds left left_after source_faults source_faults_after got got_after sink_faults sink_faults_after 6
