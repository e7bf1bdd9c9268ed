-- What the top call comes to: the form of its words, and for each status what it was answered for and what was written.
-- What is said of the source's or the sink's bytes holds where these are told.
-- Source: this project's command line.
use Rattle.std.specs.Prelude.{◌≡◌, ◌≢◌, ℕ, ◌+◌, ◌<◌, ◌≤◌, ◌&&◌, nat_le, Bool, true, false, IsTrue, List, [], ◌∷◌, ◌++◌, length, Some, None, option_map, bytes_eq, codes, decimal, if◌then◌else◌}
use Rattle.std.specs.List.{find, range_with_len}
use Rattle.std.specs.declared.option.Option.{Option}
use Rattle.std.specs.Io.KnownBytes.{Appends}
use Rattle.prgr_core.specs.declared.event.Events.{Events}
use Rattle.prgr_core.specs.declared.progress.Progress.{Progress}
use Rattle.prgr_core.specs.EventText.{EventText}
use Rattle.prgr_core.specs.Faults.{IsFirstFault}
use Rattle.prgr_core.specs.Step.{after_all, progress_opening, StopsAt}
use Rattle.outside.specs.declared.check_input.TheConstants.{LONGEST_CHECK}
use Rattle.word_run.specs.declared.beginning.TheConstants.{MOST_SCHEDULERS}
use Rattle.beam_tool.specs.declared.form.Form.{Form}
use Rattle.beam_tool.specs.declared.form.Form.TheVariants as forms
use Rattle.script_core.specs.declared.script.TheConstants.{LONGEST_SCRIPT}
use Rattle.script_core.specs.declared.script.Script.{Script}
use Rattle.script_text.specs.declared.fault.ScriptFault.{ScriptFault}
use Rattle.script_text.specs.declared.fault.ScriptFault.TheVariants as faults
use Rattle.script_text.specs.ScriptText.{ScriptText, FaultOf}
use Rattle.script_text.specs.Canonical.{canonical_text}
use Rattle.script_maker.specs.declared.making.TheConstants.{MOST_COMMANDS}
use Rattle.script_maker.specs.MadeScript.{made_script}
use Rattle.term_core.specs.Text.Words.{narrow_reading}
use Rattle.run_log.specs.declared.logs.RunLog.{RunLog}
use Rattle.run_log.specs.Report.{rendering_of, line_of}
use Rattle.run_log.specs.Summary.{summary_of}
use Rattle.run_log.specs.Legal.{Legal}
use Rattle.run_log.specs.WellFormed.{IsWellFormed}
use Rattle.report_text.specs.declared.fault.ReportFault.TheVariants as report_faults
use Rattle.report_text.specs.ReportText.{FaultOf as ReportFaultOf}
use Rattle.outside.specs.Answers.{refusal_text, report_syntax_text}
use Rattle.outside.specs.Inputs.{HasNoFault, HasScriptAndReport, IsNoReport, IsNoScript, IsReportRead, IsScriptRead, IsTooLong, WasRead}
use Rattle.outside.specs.Outside.{Rose, GetsPrefix}
use Rattle.outside.specs.Parting.{script_part, report_part}

-- the counts of schedulers that may be asked for
abbrev pub scheduler_counts : List ℕ
scheduler_counts = range_with_len 1 MOST_SCHEDULERS

-- the count of schedulers with this text, if it is one
abbrev pub schedulers_of : List ℕ → Option ℕ
schedulers_of text = find (λ n. bytes_eq (decimal n) text) scheduler_counts

-- a number of commands that a made script may have, 1 to 4,000
abbrev pub size_within : Option ℕ → Option ℕ
size_within (Some size) = if nat_le 1 size && nat_le size MOST_COMMANDS then Some size else None
size_within None = None

-- the number of commands with this text, if it is one
abbrev pub size_of : List ℕ → Option ℕ
size_of text = size_within (narrow_reading text)

-- the form of one word
abbrev pub word_form : List ℕ → Option Form
word_form command =
    if bytes_eq command (codes "run") then Some (forms.Run 2) else (if bytes_eq command (codes "check") then Some forms.Check else (if bytes_eq command (codes "progress") then Some forms.Progress else None))

-- the script of a seed and a size
abbrev pub make_form : Option ℕ → Option ℕ → Option Form
make_form (Some seed) (Some size) = Some (forms.Make seed size)
make_form seed size = None

-- a run of the script of a seed and a size
abbrev pub trial_form : Option ℕ → Option ℕ → Option ℕ → Option Form
trial_form (Some seed) (Some size) (Some schedulers) = Some (forms.Trial seed size schedulers)
trial_form seed size schedulers = None

-- the form of `run --schedulers N`
abbrev pub run_words : List ℕ → List ℕ → List ℕ → Option Form
run_words command option count = if bytes_eq command (codes "run") && bytes_eq option (codes "--schedulers") then option_map forms.Run (schedulers_of count) else None

-- whether these words stand before a seed and a size
abbrev pub name_seed_and_size : List ℕ → List ℕ → Bool
name_seed_and_size seed size = bytes_eq seed (codes "--seed") && bytes_eq size (codes "--size")

-- whether these words of a trial stand before its numbers
abbrev pub name_trial : List ℕ → List ℕ → List ℕ → List ℕ → Bool
name_trial command seed size schedulers = (bytes_eq command (codes "trial") && name_seed_and_size seed size) && bytes_eq schedulers (codes "--schedulers")

-- the form that these words have, if any: `run`, `run --schedulers N`, `check`, `make --seed S --size K`, `progress` or
-- `trial --seed S --size K --schedulers N`; S is a number of 32 bits
abbrev pub form_of : List (List ℕ) → Option Form
form_of (command ∷ []) = word_form command
form_of (command ∷ option ∷ count ∷ []) = run_words command option count
form_of (command ∷ option ∷ seed ∷ next ∷ size ∷ []) =
    if bytes_eq command (codes "make") && name_seed_and_size option next then make_form (narrow_reading seed) (size_of size) else None
form_of (command ∷ option ∷ seed ∷ next ∷ size ∷ last ∷ count ∷ []) =
    if name_trial command option next last then trial_form (narrow_reading seed) (size_of size) (schedulers_of count) else None
form_of words = None

-- the script that a seed and a size make; it stands folded, since its text is long
unfoldable pub seeded_script : ℕ → ℕ → Script
seeded_script seed size = made_script seed size

-- a number of commands that a made script may have, 1 to 4,000
abbrev pub IsSize : ℕ → Type 0
IsSize size = (1 ≤ size) × (size ≤ MOST_COMMANDS)

-- a number of schedulers that may run a script, 1 to 16
abbrev pub IsCount : ℕ → Type 0
IsCount schedulers = (0 < schedulers) × (schedulers ≤ MOST_SCHEDULERS)

-- a form whose numbers of commands and of schedulers are within these limits
abbrev pub IsWithinLimits : Form → Type 0
IsWithinLimits (forms.Run schedulers) = IsCount schedulers
IsWithinLimits (forms.Make seed size) = IsSize size
IsWithinLimits (forms.Trial seed size schedulers) = IsSize size × IsCount schedulers
IsWithinLimits form = Unit {0}

-- whether words of this form read the source
abbrev pub reads : Option Form → Bool
reads (Some (forms.Run schedulers)) = true
reads (Some forms.Check) = true
reads (Some forms.Progress) = true
reads form = false

-- whether words of this form run a script
abbrev pub runs : Option Form → Bool
runs (Some (forms.Run schedulers)) = true
runs (Some (forms.Trial seed size schedulers)) = true
runs form = false

-- how many bytes words of this form take from the source at most: one more than what they read may have, and none where they read nothing
abbrev pub most_taken : Option Form → ℕ
most_taken (Some (forms.Run schedulers)) = LONGEST_SCRIPT + 1
most_taken (Some forms.Check) = LONGEST_CHECK + 1
most_taken (Some forms.Progress) = LONGEST_SCRIPT + 1
most_taken form = 0

-- the line for words of no form
abbrev pub not_understood_text : List ℕ
not_understood_text = line_of (codes "words not understood")

-- the line for a text that is over the limit
abbrev pub too_long_text : List ℕ
too_long_text = refusal_text faults.FileTooLong

-- the line for an event list whose first faulty line this is
abbrev pub syntax_text : ℕ → List ℕ
syntax_text line = refusal_text (faults.Syntax line)

-- the line for a report of a lawful log
abbrev pub lawful_text : List ℕ
lawful_text = line_of (codes "lawful")

-- the line for a report of a log that is not lawful
abbrev pub not_lawful_text : List ℕ
not_lawful_text = line_of (codes "not lawful")

-- the line for an event that is not enabled
abbrev pub not_enabled_text : ℕ → List ℕ
not_enabled_text index = line_of (codes "not enabled " ++ decimal index)

-- the line for a list whose events were all made
abbrev pub done_text : ℕ → Progress → List ℕ
done_text events state = line_of (codes "done events " ++ decimal events ++ codes " counter " ++ decimal state.counter ++ codes " generation " ++ decimal state.generation)

-- the log is not lawful for the script
abbrev pub IsUnlawful : Script → RunLog → Type 0
IsUnlawful s log = Legal s log → ⊥

-- an event list that the machine can be given: 1 to 16 members, and at most 4 watchers
pub record IsReplayable (events : Events) : Type 0 where
  pub some_member : 1 ≤ events.members
  pub few_members : events.members ≤ 16
  pub few_watchers : events.watchers ≤ 4

-- the answer to a script: a history of one code server for it, which a report can show, and its report
pub data ReportOf (s : Script) : ℕ → Option RunLog → List ℕ → Type 0 where
  made : (log : RunLog) (text : List ℕ) → Legal s log → IsWellFormed s.names log → text ≡ rendering_of s.names log → ReportOf s 0 (Some log) text

-- the answer of a run to the bytes that it read: the report of the script that they are, or their one fault
pub data ScriptVerdict (bytes : List ℕ) : ℕ → Option RunLog → List ℕ → Type 0 where
  report : (s : Script) (status : ℕ) (log : Option RunLog) (text : List ℕ) → ScriptText bytes s → HasNoFault bytes → ReportOf s status log text → ScriptVerdict bytes status log text
  refusal : (f : ScriptFault) → FaultOf bytes f → IsNoScript bytes → ScriptVerdict bytes 3 None (refusal_text f)

-- the bytes are the text of no list of events
abbrev pub IsNoList : List ℕ → Type 0
IsNoList bytes = (events : Events) → EventText bytes events → ⊥

-- the bytes are the text of no list of events, and this is their first line of another form, and the only one
pub record IsListFault (bytes : List ℕ) (line : ℕ) : Type 0 where
  pub none : IsNoList bytes
  pub first : IsFirstFault bytes line
  pub only : (other : ℕ) → IsFirstFault bytes other → other ≡ line

-- the answer to an event list: all events were made, or the first that is not enabled
pub data ReplayOf (events : Events) : ℕ → Option RunLog → List ℕ → Type 0 where
  all_made : (state : Progress) → after_all (progress_opening events.members events.watchers) events.list ≡ Some state → ReplayOf events 0 None (done_text (length events.list) state)
  stopped : (index : ℕ) (state : Progress) → StopsAt (progress_opening events.members events.watchers) events.list index state → ReplayOf events 1 None (not_enabled_text index)

-- the answer of a replay to the bytes that it read: that to the event list that they are, or the first faulty line
pub data ListVerdict (bytes : List ℕ) : ℕ → Option RunLog → List ℕ → Type 0 where
  replay : (events : Events) (status : ℕ) (log : Option RunLog) (text : List ℕ) → EventText bytes events → ReplayOf events status log text → ListVerdict bytes status log text
  fault : (line : ℕ) → IsListFault bytes line → ListVerdict bytes 3 None (syntax_text line)

-- the answer to a report, for the script that stands before it: it is refused, or its log is lawful, or it is not
pub data ReportVerdict (s : Script) (report : List ℕ) : ℕ → Option RunLog → List ℕ → Type 0 where
  report_refused : (line : ℕ) → ReportFaultOf s.names report (report_faults.Syntax line) → IsNoReport s.names report → ReportVerdict s report 3 None (report_syntax_text line)
  lawful : (log : RunLog) → IsReportRead s.names report log → Legal s log → ReportVerdict s report 0 None lawful_text
  not_lawful : (log : RunLog) → IsReportRead s.names report log → IsUnlawful s log → ReportVerdict s report 1 None not_lawful_text

-- the answer of a check to the bytes that it read: that to the report behind the script's part, or the one fault of that part, which comes first
pub data CheckVerdict (bytes : List ℕ) : ℕ → Option RunLog → List ℕ → Type 0 where
  script_refused : (f : ScriptFault) → FaultOf (script_part bytes) f → IsNoScript (script_part bytes) → CheckVerdict bytes 3 None (refusal_text f)
  judged : (s : Script) (status : ℕ) (log : Option RunLog) (text : List ℕ) → IsScriptRead (script_part bytes) s → ReportVerdict s (report_part bytes) status log text → CheckVerdict bytes status log text

-- what a form that reads up to a limit comes to apart from writing: what its bytes come to, or the line for a text over the limit
pub data ReadVerdict (limit : ℕ) (left left_after : Option (List ℕ)) (P : List ℕ → ℕ → Option RunLog → List ℕ → Type 0) : ℕ → Option RunLog → List ℕ → Type 0 where
  whole_text : (bytes : List ℕ) (status : ℕ) (log : Option RunLog) (text : List ℕ) → WasRead limit left left_after bytes → P bytes status log text → ReadVerdict limit left left_after P status log text
  long_text : IsTooLong limit left → ReadVerdict limit left left_after P 3 None too_long_text

-- the answer of a trial: a history of one code server for the made script, and its summary
pub data TrialOf (seed size : ℕ) : ℕ → Option RunLog → List ℕ → Type 0 where
  tried : (log : RunLog) → Legal (seeded_script seed size) log → TrialOf seed size 0 (Some log) (summary_of (seeded_script seed size) log)

-- what a call comes to apart from writing, by the form of its words: status, log and text
pub data Verdict (left left_after : Option (List ℕ)) : Option Form → ℕ → Option RunLog → List ℕ → Type 0 where
  misread : Verdict left left_after None 2 None not_understood_text
  run : (schedulers status : ℕ) (log : Option RunLog) (text : List ℕ) → ReadVerdict LONGEST_SCRIPT left left_after ScriptVerdict status log text → Verdict left left_after (Some (forms.Run schedulers)) status log text
  check : (status : ℕ) (log : Option RunLog) (text : List ℕ) → ReadVerdict LONGEST_CHECK left left_after CheckVerdict status log text → Verdict left left_after (Some forms.Check) status log text
  progress : (status : ℕ) (log : Option RunLog) (text : List ℕ) → ReadVerdict LONGEST_SCRIPT left left_after ListVerdict status log text → Verdict left left_after (Some forms.Progress) status log text
  make : (seed size : ℕ) → Verdict left left_after (Some (forms.Make seed size)) 0 None (canonical_text (seeded_script seed size))
  trial : (seed size schedulers status : ℕ) (log : Option RunLog) (text : List ℕ) → TrialOf seed size status log text → Verdict left left_after (Some (forms.Trial seed size schedulers)) status log text

-- statuses 0 to 3: the text of what the call came to was written whole
pub record Answered (form : Option Form) (left left_after got got_after : Option (List ℕ)) (status : ℕ) (log : Option RunLog) : Type 0 where
  pub text : List ℕ
  pub verdict : Verdict left left_after form status log text
  pub written : Appends got got_after text

-- the source was read to its end, within the limit, and its bytes are this script's text
pub record TookScript (left left_after : Option (List ℕ)) (script : Script) : Type 0 where
  pub bytes : List ℕ
  pub read : WasRead LONGEST_SCRIPT left left_after bytes
  pub text : ScriptText bytes script

-- status 0 of a run, the headline: the whole source is a script's text, the log is lawful for it and one that a report can show, and its report was written
pub record Reported (left left_after got got_after : Option (List ℕ)) (answered : Option RunLog) : Type 0 where
  pub script : Script
  pub log : RunLog
  pub took : TookScript left left_after script
  pub answered_is : answered ≡ Some log
  pub legal : Legal script log
  pub formed : IsWellFormed script.names log
  pub written : Appends got got_after (rendering_of script.names log)

-- what a run wrote is a report that a check accepts: behind the script's text that was read stands the report of a log that is lawful for it
pub record IsAccepted (left left_after got got_after : Option (List ℕ)) : Type 0 where
  pub bytes : List ℕ
  pub report : List ℕ
  pub script : Script
  pub log : RunLog
  pub read : WasRead LONGEST_SCRIPT left left_after bytes
  pub written : Appends got got_after report
  pub parts : HasScriptAndReport (bytes ++ report) script log
  pub holds : Legal script log

-- status 0 of a trial, the headline of a made script: the log is lawful for it, and its summary was written
pub record Summarized (seed size : ℕ) (got got_after : Option (List ℕ)) (answered : Option RunLog) : Type 0 where
  pub log : RunLog
  pub answered_is : answered ≡ Some log
  pub legal : Legal (seeded_script seed size) log
  pub written : Appends got got_after (summary_of (seeded_script seed size) log)

-- status 0 of a script that was made: its canonical text was written, which reads as this script
pub record Made (seed size : ℕ) (got got_after : Option (List ℕ)) : Type 0 where
  pub reads : ScriptText (canonical_text (seeded_script seed size)) (seeded_script seed size)
  pub written : Appends got got_after (canonical_text (seeded_script seed size))

-- statuses 0 and 1 of a check: the whole source is a script's text and behind it the report of a log, of the two this is true, and this line was written
pub record Checked (judgement : Script → RunLog → Type 0) (line : List ℕ) (left left_after got got_after : Option (List ℕ)) : Type 0 where
  pub bytes : List ℕ
  pub script : Script
  pub log : RunLog
  pub read : WasRead LONGEST_CHECK left left_after bytes
  pub parts : HasScriptAndReport bytes script log
  pub holds : judgement script log
  pub written : Appends got got_after line

-- status 4: a form that reads, and a source that failed
pub record SourceFailed (form : Option Form) (faults faults_after : ℕ) : Type 0 where
  pub reading : IsTrue (reads form)
  pub rose : Rose faults faults_after

-- status 5: a sink that failed within the text of what the call came to
pub record SinkFailed (form : Option Form) (left left_after got got_after : Option (List ℕ)) (faults faults_after : ℕ) (log : Option RunLog) : Type 0 where
  pub rose : Rose faults faults_after
  pub status : ℕ
  pub text : List ℕ
  pub verdict : Verdict left left_after form status log text
  pub prefix : GetsPrefix got got_after text

-- a text was written whole under its status, or the sink failed within it
pub data Delivered (got got_after : Option (List ℕ)) (faults faults_after : ℕ) (status : ℕ) (text : List ℕ) : ℕ → Type 0 where
  whole : Appends got got_after text → Delivered got got_after faults faults_after status text status
  cut : Rose faults faults_after → GetsPrefix got got_after text → Delivered got got_after faults faults_after status text 5

-- how a call ended: its text was written whole, or the sink or the source failed, or memory was refused
pub data Ends (form : Option Form) (left left_after : Option (List ℕ)) (source_faults source_faults_after : ℕ) (got got_after : Option (List ℕ)) (sink_faults sink_faults_after : ℕ) : ℕ → Option RunLog → Type 0 where
  written : (status : ℕ) (log : Option RunLog) (text : List ℕ) → Verdict left left_after form status log text → Appends got got_after text → Ends form left left_after source_faults source_faults_after got got_after sink_faults sink_faults_after status log
  cut_off : (status : ℕ) (log : Option RunLog) (text : List ℕ) → Verdict left left_after form status log text → Rose sink_faults sink_faults_after → GetsPrefix got got_after text → Ends form left left_after source_faults source_faults_after got got_after sink_faults sink_faults_after 5 log
  source_failed : IsTrue (reads form) → Rose source_faults source_faults_after → Ends form left left_after source_faults source_faults_after got got_after sink_faults sink_faults_after 4 None
  no_memory : form ≢ None → Ends form left left_after source_faults source_faults_after got got_after sink_faults sink_faults_after 6 None
