-- What a form comes to, from what was read and from its line.
use Rattle.std.proofs.Common.{◌≡◌, ℕ, Bool, true, false, List, length, Option, Some, None, Result, Ok, Err, sym, subst, ap, ◌∙◌, inl, inr, ◌⊎◌}
use Rattle.std.specs.Prelude.{IfOk}
use Rattle.prgr_core.specs.declared.event.Events.{Events}
use Rattle.prgr_core.specs.declared.progress.Progress.{Progress}
use Rattle.prgr_core.specs.EventText.{EventText}
use Rattle.prgr_core.specs.Step.{after_all, progress_opening, StopsAt}
use Rattle.script_core.specs.declared.script.TheConstants.{LONGEST_SCRIPT}
use Rattle.script_core.specs.declared.script.Script.{Script}
use Rattle.script_text.specs.declared.fault.ScriptFault.{ScriptFault}
use Rattle.script_text.specs.declared.fault.ScriptFault.TheVariants as faults
use Rattle.script_text.specs.Canonical.{canonical_text}
use Rattle.script_text.specs.ScriptText.{ScriptText, FaultOf}
use Rattle.run_log.specs.declared.logs.RunLog.{RunLog}
use Rattle.shared_words.specs.declared.closing.Closed.{Closed}
use Rattle.outside.specs.declared.check_input.TheConstants.{LONGEST_CHECK}
use Rattle.outside.specs.declared.answer.Answer.{Answer}
use Rattle.outside.specs.Answers.{IsLine, refusal_text}
use Rattle.outside.specs.Inputs.{HasNoFault, IsNoScript, WasRead}
use Rattle.outside.specs.Parting.{script_part}
use Rattle.beam_tool.specs.declared.form.Form.{Form}
use Rattle.beam_tool.specs.declared.form.Form.TheVariants as forms
use Rattle.beam_tool.specs.ClosedTables.{IsUnrun}
use Rattle.beam_tool.specs.TopCall.{CheckVerdict, ListVerdict, ReadVerdict, ReplayOf, ReportOf, ScriptVerdict, TrialOf, Verdict, all_made, check, done_text, make, not_enabled_text, progress, refusal, replay, report, run, script_refused, seeded_script, stopped, trial, whole_text}

-- what holds of an answer where something else does
pub on_ok : {A E : Type 0} (P Q : A → Type 0) (r : Result A E) → ((a : A) → P a → Q a) → IfOk r P → IfOk r Q
on_ok P Q (Ok a) f h = f a h
on_ok P Q (Err e) f h = tt

-- two facts of an answer
pub both_ok : {A E : Type 0} (P Q : A → Type 0) (r : Result A E) → IfOk r P → IfOk r Q → IfOk r (λ a. P a × Q a)
both_ok P Q (Ok a) p q = (p, q)
both_ok P Q (Err e) p q = tt

-- a test has one outcome
pub true_not_false : (b : Bool) → b ≡ true → b ≡ false → ⊥
true_not_false b e f = cc

-- a verdict on a line is one on an answer that is this line
pub by_line : (P : ℕ → Option RunLog → List ℕ → Type 0) (wanted : ℕ) (line : List ℕ) (status : ℕ) (log : Option RunLog) (text : List ℕ) → P wanted None line → IsLine wanted line status log text → P status log text
by_line P wanted line status log text p h =
    subst (λ (n : ℕ). P n log text) (sym h.status_is)
    (subst (λ (l : Option RunLog). P wanted l text) (sym h.log_is)
    (subst (λ (t : List ℕ). P wanted None t) (sym h.text_is) p))

-- what a slice of the bytes comes to, where the whole was read
pub by_slice : (P : List ℕ → ℕ → Option RunLog → List ℕ → Type 0) (limit : ℕ) (left left' : Option (List ℕ)) (bytes slice : List ℕ) (status : ℕ) (log : Option RunLog) (text : List ℕ) → slice ≡ bytes → WasRead limit left left' bytes → P slice status log text → ReadVerdict limit left left' P status log text
by_slice P limit left left' bytes slice status log text e read p = whole_text bytes status log text read (subst (λ (b : List ℕ). P b status log text) e p)

-- what holds of an answer holds of the same one in a work
pub by_work : (P : ℕ → Option RunLog → List ℕ → Type 0) (a b : Answer) → b ≡ a → P a.status a.log a.text → P b.status b.log b.text
by_work P a b e h = subst (λ (x : Answer). P x.status x.log x.text) (sym e) h

-- an answer without a log, and no table
pub unrun_of : (a b : Answer) (closed : Option Closed) → b ≡ a → closed ≡ None → a.log ≡ None → IsUnrun b.log closed
unrun_of a b closed e c none = (ap (λ (x : Answer). x.log) e ∙ none, c)

-- ---- a form's verdict

-- the report of a script is the answer to its bytes
pub report_of : (bytes : List ℕ) (s : Script) (status : ℕ) (log : Option RunLog) (text : List ℕ) → ScriptText bytes s → HasNoFault bytes → ReportOf s status log text → ScriptVerdict bytes status log text
report_of bytes s status log text t sane r = report s status log text t sane r

-- the fault of bytes that are no script's text is the answer to them
pub refusal_of : (bytes : List ℕ) (f : ScriptFault) (status : ℕ) (log : Option RunLog) (text : List ℕ) → FaultOf bytes f ⊎ (f ≡ faults.NoMemory) → ((s : Script) → ScriptText bytes s → f ≡ faults.NoMemory) → IsLine 3 (refusal_text f) status log text → (f ≡ faults.NoMemory → ⊥) → ScriptVerdict bytes status log text
refusal_of bytes f status log text (inl q) only line known = by_line (ScriptVerdict bytes) 3 (refusal_text f) status log text (refusal f q (λ s t. known (only s t))) line
refusal_of bytes f status log text (inr e) only line known = absurd (known e)

-- the fault of a script's part is the answer to the bytes
pub script_refused_of : (bytes part : List ℕ) (f : ScriptFault) (status : ℕ) (log : Option RunLog) (text : List ℕ) → part ≡ script_part bytes → FaultOf part f ⊎ (f ≡ faults.NoMemory) → ((s : Script) → ScriptText part s → f ≡ faults.NoMemory) → IsLine 3 (refusal_text f) status log text → (f ≡ faults.NoMemory → ⊥) → CheckVerdict bytes status log text
script_refused_of bytes part f status log text pe (inl q) only line known =
    by_line (CheckVerdict bytes) 3 (refusal_text f) status log text (script_refused f (subst (λ (b : List ℕ). FaultOf b f) pe q) (subst IsNoScript pe (λ s t. known (only s t)))) line
script_refused_of bytes part f status log text pe (inr e) only line known = absurd (known e)

-- the answer to an event list is that to its bytes
pub replay_of : (bytes : List ℕ) (events : Events) (status : ℕ) (log : Option RunLog) (text : List ℕ) → EventText bytes events → ReplayOf events status log text → ListVerdict bytes status log text
replay_of bytes events status log text t r = replay events status log text t r

-- the answer to a list whose events were all made
pub replay_made : (events : Events) (s t : Progress) (n status : ℕ) (log : Option RunLog) (text : List ℕ) → s ≡ progress_opening events.members events.watchers → n ≡ length events.list → after_all s events.list ≡ Some t → IsLine 0 (done_text n t) status log text → ReplayOf events status log text
replay_made events s t n status log text se ne r line =
    let made_so : after_all (progress_opening events.members events.watchers) events.list ≡ Some t = subst (λ (x : Progress). after_all x events.list ≡ Some t) se r in
    let answer : ReplayOf events 0 None (done_text n t) = subst (λ (x : ℕ). ReplayOf events 0 None (done_text x t)) (sym ne) (all_made t made_so) in
    by_line (ReplayOf events) 0 (done_text n t) status log text answer line

-- the answer to a list with an event that is not enabled
pub replay_stopped : (events : Events) (s t : Progress) (index status : ℕ) (log : Option RunLog) (text : List ℕ) → s ≡ progress_opening events.members events.watchers → StopsAt s events.list index t → IsLine 1 (not_enabled_text index) status log text → ReplayOf events status log text
replay_stopped events s t index status log text se r line =
    by_line (ReplayOf events) 1 (not_enabled_text index) status log text (stopped index t (subst (λ (x : Progress). StopsAt x events.list index t) se r)) line

-- what a run comes to, by its form
pub run_by : (left left' : Option (List ℕ)) (form : Form) (schedulers status : ℕ) (log : Option RunLog) (text : List ℕ) → form ≡ forms.Run schedulers → ReadVerdict LONGEST_SCRIPT left left' ScriptVerdict status log text → Verdict left left' (Some form) status log text
run_by left left' form schedulers status log text e v = subst (λ (f : Form). Verdict left left' (Some f) status log text) (sym e) (run schedulers status log text v)

-- what a check comes to, by its form
pub check_by : (left left' : Option (List ℕ)) (form : Form) (status : ℕ) (log : Option RunLog) (text : List ℕ) → form ≡ forms.Check → ReadVerdict LONGEST_CHECK left left' CheckVerdict status log text → Verdict left left' (Some form) status log text
check_by left left' form status log text e v = subst (λ (f : Form). Verdict left left' (Some f) status log text) (sym e) (check status log text v)

-- the summary of a trial, by its form
pub trial_by : (left left' : Option (List ℕ)) (form : Form) (seed size schedulers status : ℕ) (log : Option RunLog) (text : List ℕ) → form ≡ forms.Trial seed size schedulers → TrialOf seed size status log text → Verdict left left' (Some form) status log text
trial_by left left' form seed size schedulers status log text e v = subst (λ (f : Form). Verdict left left' (Some f) status log text) (sym e) (trial seed size schedulers status log text v)

-- the text of a made script, by its form
pub make_by : (left left' : Option (List ℕ)) (form : Form) (seed size status : ℕ) (log : Option RunLog) (text : List ℕ) → form ≡ forms.Make seed size → IsLine 0 (canonical_text (seeded_script seed size)) status log text → Verdict left left' (Some form) status log text
make_by left left' form seed size status log text e line =
    subst (λ (f : Form). Verdict left left' (Some f) status log text) (sym e) (by_line (Verdict left left' (Some (forms.Make seed size))) 0 (canonical_text (seeded_script seed size)) status log text (make seed size) line)

-- what a replay comes to, by its form
pub progress_by : (left left' : Option (List ℕ)) (form : Form) (status : ℕ) (log : Option RunLog) (text : List ℕ) → form ≡ forms.Progress → ReadVerdict LONGEST_SCRIPT left left' ListVerdict status log text → Verdict left left' (Some form) status log text
progress_by left left' form status log text e v = subst (λ (f : Form). Verdict left left' (Some f) status log text) (sym e) (progress status log text v)
