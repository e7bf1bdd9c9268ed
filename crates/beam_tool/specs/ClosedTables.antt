-- What a call answers beside its log: the table of words that the threads of the run shared, as it was closed when they had ended.
-- It says that the log was made over the table: a server that is kept in plain memory alone has published nothing there, and has no mark of a turn.
-- Source: this project's command line.
use Rattle.std.specs.Prelude.{◌≡◌, ℕ, List, Some, None}
use Rattle.std.specs.declared.option.Option.{Option}
use Rattle.term_core.specs.declared.atom.Mfa.{Mfa}
use Rattle.shared_words.specs.declared.closing.Closed.{Closed}
use Rattle.shared_words.specs.Seats.{writer_of}
use Rattle.script_core.specs.declared.script.TheConstants.{LONGEST_SCRIPT}
use Rattle.script_core.specs.declared.script.Script.{Script}
use Rattle.script_text.specs.ScriptText.{ScriptText}
use Rattle.run_log.specs.declared.logs.RunLog.{RunLog}
use Rattle.run_log.specs.Legal.{Legal}
use Rattle.run_law.specs.Ends.{Closes}
use Rattle.outside.specs.Inputs.{WasRead}
use Rattle.beam_tool.specs.declared.form.Form.{Form}
use Rattle.beam_tool.specs.declared.form.Form.TheVariants as forms
use Rattle.beam_tool.specs.TopCall.{seeded_script}

-- the table was closed by the run that made this log: it has published the generations of the journal, and has of each process one mark for each turn, in
-- order, with that turn's generation and names
abbrev pub IsTableOf : Script → RunLog → Closed → Type 0
IsTableOf s log table = (names : List Mfa) × Closes names s log (writer_of table.writer.seat.me.0)

-- the table that a run closed stands beside its log: the bytes that were read are the script's text, and the log is lawful for it
pub record HasTable (left left_after : Option (List ℕ)) (answered : Option RunLog) (closed : Option Closed) : Type 0 where
  pub bytes : List ℕ
  pub script : Script
  pub log : RunLog
  pub table : Closed
  pub read : WasRead LONGEST_SCRIPT left left_after bytes
  pub text : ScriptText bytes script
  pub answered_is : answered ≡ Some log
  pub legal : Legal script log
  pub closed_is : closed ≡ Some table
  pub table_of : IsTableOf script log table

-- the table that a trial closed stands beside its log, which is lawful for the made script
pub record HasTableOfMade (seed size : ℕ) (answered : Option RunLog) (closed : Option Closed) : Type 0 where
  pub log : RunLog
  pub table : Closed
  pub answered_is : answered ≡ Some log
  pub legal : Legal (seeded_script seed size) log
  pub closed_is : closed ≡ Some table
  pub table_of : IsTableOf (seeded_script seed size) log table

-- neither a log nor a table: nothing was run
abbrev pub IsUnrun : Option RunLog → Option Closed → Type 0
IsUnrun log closed = (log ≡ None) × (closed ≡ None)

-- the log and the table of the run of this script, or neither
pub data Closing (s : Script) : Option RunLog → Option Closed → Type 0 where
  unrun : Closing s None None
  ran : (log : RunLog) (table : Closed) → Legal s log → IsTableOf s log table → Closing s (Some log) (Some table)

-- the log and the table of the run of the script whose text these bytes are, or neither
pub data ClosingOf (bytes : List ℕ) : Option RunLog → Option Closed → Type 0 where
  no_script : ClosingOf bytes None None
  of_script : (s : Script) (log : Option RunLog) (closed : Option Closed) → ScriptText bytes s → Closing s log closed → ClosingOf bytes log closed

-- the log and the table of the run of what was read, or neither
pub data ClosingRead (left left_after : Option (List ℕ)) : Option RunLog → Option Closed → Type 0 where
  too_long : ClosingRead left left_after None None
  of_bytes : (bytes : List ℕ) (log : Option RunLog) (closed : Option Closed) → WasRead LONGEST_SCRIPT left left_after bytes → ClosingOf bytes log closed → ClosingRead left left_after log closed

-- the log and the table that a call answers, by the form of its words
pub data ClosingBy (left left_after : Option (List ℕ)) : Option Form → Option RunLog → Option Closed → Type 0 where
  no_run : (form : Option Form) → ClosingBy left left_after form None None
  by_run : (schedulers : ℕ) (log : Option RunLog) (closed : Option Closed) → ClosingRead left left_after log closed → ClosingBy left left_after (Some (forms.Run schedulers)) log closed
  by_trial : (seed size schedulers : ℕ) (log : Option RunLog) (closed : Option Closed) → Closing (seeded_script seed size) log closed → ClosingBy left left_after (Some (forms.Trial seed size schedulers)) log closed
