-- What each status of the top call says, from how the call ended.
use Rattle.std.proofs.Common.{◌≡◌, ◌≢◌, ℕ, ◌≤◌, false, List, Option, Some, None, refl, sym, subst, arith}
use Rattle.std.specs.Prelude.{IsTrue}
use Rattle.std.specs.Io.KnownBytes.{Appends}
use Rattle.prgr_core.specs.declared.event.Events.{Events}
use Rattle.outside.specs.declared.check_input.TheConstants.{LONGEST_CHECK}
use Rattle.outside.specs.Inputs.{HasScriptAndReport, IsReportOf, IsReportRead}
use Rattle.outside.specs.Outside.{Rose}
use Rattle.outside.specs.Parting.{script_part, report_part}
use Rattle.outside.proofs.ScriptParts.{parts_are_whole}
use Rattle.run_log.specs.declared.logs.RunLog.{RunLog}
use Rattle.run_log.specs.Legal.{Legal}
use Rattle.run_log.specs.Report.{rendering_of}
use Rattle.script_core.specs.declared.script.TheConstants.{LONGEST_SCRIPT}
use Rattle.script_core.specs.declared.script.Script.{Script}
use Rattle.script_text.specs.ScriptText.{ScriptText}
use Rattle.beam_tool.specs.declared.form.Form.{Form}
use Rattle.beam_tool.specs.declared.form.Form.TheVariants as forms
use Rattle.beam_tool.specs.TopCall.{Answered, CheckVerdict, Checked, Delivered, Ends, IsAccepted, IsUnlawful, ListVerdict, Made, ReadVerdict, ReplayOf, ReportVerdict, Reported, SinkFailed, SourceFailed, Summarized, Verdict, all_made, check, cut, cut_off, fault, judged, lawful, lawful_text, long_text, made, make, misread, no_memory, not_lawful, not_lawful_text, progress, reads, refusal, replay, report, report_refused, run, runs, script_refused, source_failed, stopped, tried, trial, whole, whole_text, written}
use Rattle.beam_tool.proofs.SeededScripts.{seeded_text-reads}

-- ---- how a call ended

replay_status : {events : Events} {status : ℕ} {log : Option RunLog} {text : List ℕ} → ReplayOf events status log text → status ≤ 1
replay_status (all_made _ e) = omega arith
replay_status (stopped _ _ e) = omega arith

replay_log : {events : Events} {status : ℕ} {log : Option RunLog} {text : List ℕ} → ReplayOf events status log text → log ≡ None
replay_log (all_made _ e) = refl
replay_log (stopped _ _ e) = refl

report_status : {s : Script} {bytes : List ℕ} {status : ℕ} {log : Option RunLog} {text : List ℕ} → ReportVerdict s bytes status log text → status ≤ 3
report_status (report_refused _ q bare) = omega arith
report_status (lawful _ r l) = omega arith
report_status (not_lawful _ r l) = omega arith

report_log : {s : Script} {bytes : List ℕ} {status : ℕ} {log : Option RunLog} {text : List ℕ} → ReportVerdict s bytes status log text → log ≡ None
report_log (report_refused _ q bare) = refl
report_log (lawful _ r l) = refl
report_log (not_lawful _ r l) = refl

pub known_verdict : {left left' : Option (List ℕ)} {form : Option Form} {status : ℕ} {log : Option RunLog} {text : List ℕ} → Verdict left left' form status log text → status ≤ 3
known_verdict misread = omega arith
known_verdict (run _ _ _ _ (whole_text _ _ _ _ r (report _ _ _ _ t h (made _ _ l k e)))) = omega arith
known_verdict (run _ _ _ _ (whole_text _ _ _ _ r (refusal _ q bare))) = omega arith
known_verdict (run _ _ _ _ (long_text l)) = omega arith
known_verdict (check _ _ _ (whole_text _ _ _ _ r (script_refused _ q bare))) = omega arith
known_verdict (check _ _ _ (whole_text _ _ _ _ r (judged _ _ _ _ rs v))) = report_status v
known_verdict (check _ _ _ (long_text l)) = omega arith
known_verdict (progress _ _ _ (whole_text _ _ _ _ r (replay _ _ _ _ t v))) = omega (arith, replay_status v)
known_verdict (progress _ _ _ (whole_text _ _ _ _ r (fault _ e))) = omega arith
known_verdict (progress _ _ _ (long_text l)) = omega arith
known_verdict (make _ _) = omega arith
known_verdict (trial _ _ _ _ _ _ (tried _ l)) = omega arith

pub known_of : {form : Option Form} {left left' : Option (List ℕ)} {sf sf' : ℕ} {got got' : Option (List ℕ)} {kf kf' : ℕ} {status : ℕ} {log : Option RunLog} → Ends form left left' sf sf' got got' kf kf' status log → status ≤ 6
known_of (written status _ _ v a) = omega (arith, known_verdict v)
known_of (cut_off _ _ _ v r p) = omega arith
known_of (source_failed f r) = omega arith
known_of (no_memory f) = omega arith

pub answered_of : {form : Option Form} {left left' : Option (List ℕ)} {sf sf' : ℕ} {got got' : Option (List ℕ)} {kf kf' : ℕ} {status : ℕ} {log : Option RunLog} → Ends form left left' sf sf' got got' kf kf' status log → status ≤ 3 → Answered form left left' got got' status log
answered_of (written _ _ text v a) e = record { text = text; verdict = v; written = a }
answered_of (cut_off _ _ _ v r p) e = absurd (omega arith)
answered_of (source_failed f r) e = absurd (omega arith)
answered_of (no_memory f) e = absurd (omega arith)

-- the same of words of this form
told_of : (found : Option Form) → {form : Option Form} {left left' : Option (List ℕ)} {sf sf' : ℕ} {got got' : Option (List ℕ)} {kf kf' : ℕ} {status : ℕ} {log : Option RunLog} → Ends form left left' sf sf' got got' kf kf' status log → form ≡ found → status ≤ 3 → Answered found left left' got got' status log
told_of found {left = left} {left' = left'} {got = got} {got' = got'} {status = status} {log = log} ends f few = subst (λ (x : Option Form). Answered x left left' got got' status log) f (answered_of ends few)

-- ---- what a call comes to that did its work, by its form

reported_by : {n : ℕ} {left left' got got' : Option (List ℕ)} {status : ℕ} {log : Option RunLog} {text : List ℕ} → Verdict left left' (Some (forms.Run n)) status log text → Appends got got' text → status ≡ 0 → Reported left left' got got' log
reported_by {got = got} {got' = got'} (run _ _ _ _ (whole_text bytes _ _ _ r (report s _ _ _ t h (made log text l k q)))) a e =
    record { script = s; log = log; took = record { bytes = bytes; read = r; text = t }; answered_is = refl; legal = l; formed = k; written = subst (λ (x : List ℕ). Appends got got' x) q a }
reported_by (run _ _ _ _ (whole_text _ _ _ _ r (refusal _ q bare))) a e = absurd (omega arith)
reported_by (run _ _ _ _ (long_text l)) a e = absurd (omega arith)

pub headline_of : (n : ℕ) → {form : Option Form} {left left' : Option (List ℕ)} {sf sf' : ℕ} {got got' : Option (List ℕ)} {kf kf' : ℕ} {status : ℕ} {log : Option RunLog} → Ends form left left' sf sf' got got' kf kf' status log → form ≡ Some (forms.Run n) → status ≡ 0 → Reported left left' got got' log
headline_of n ends f e = let told = told_of (Some (forms.Run n)) ends f (omega (arith, e)) in reported_by told.verdict told.written e

-- what a run wrote stands behind its script as a report
accepted_by : {left left' got got' : Option (List ℕ)} {log : Option RunLog} → Reported left left' got got' log → IsAccepted left left' got got'
accepted_by r = record {
  bytes = r.took.bytes;
  report = rendering_of r.script.names r.log;
  script = r.script;
  log = r.log;
  read = r.took.read;
  written = r.written;
  parts = record { front = r.took.bytes; behind = rendering_of r.script.names r.log; whole = refl; text = r.took.text; report = record { formed = r.formed; text_is = refl } };
  holds = r.legal;
}

pub accepted_of : (n : ℕ) → {form : Option Form} {left left' : Option (List ℕ)} {sf sf' : ℕ} {got got' : Option (List ℕ)} {kf kf' : ℕ} {status : ℕ} {log : Option RunLog} → Ends form left left' sf sf' got got' kf kf' status log → form ≡ Some (forms.Run n) → status ≡ 0 → IsAccepted left left' got got'
accepted_of n ends f e = accepted_by (headline_of n ends f e)

summarized_by : {seed size n : ℕ} {left left' got got' : Option (List ℕ)} {status : ℕ} {log : Option RunLog} {text : List ℕ} → Verdict left left' (Some (forms.Trial seed size n)) status log text → Appends got got' text → Summarized seed size got got' log
summarized_by (trial _ _ _ _ _ _ (tried log l)) a = record { log = log; answered_is = refl; legal = l; written = a }

pub summarized_of : (seed size n : ℕ) → {form : Option Form} {left left' : Option (List ℕ)} {sf sf' : ℕ} {got got' : Option (List ℕ)} {kf kf' : ℕ} {status : ℕ} {log : Option RunLog} → Ends form left left' sf sf' got got' kf kf' status log → form ≡ Some (forms.Trial seed size n) → status ≡ 0 → Summarized seed size got got' log
summarized_of seed size n ends f e = let told = told_of (Some (forms.Trial seed size n)) ends f (omega (arith, e)) in summarized_by told.verdict told.written

made_by : {seed size : ℕ} {left left' got got' : Option (List ℕ)} {status : ℕ} {log : Option RunLog} {text : List ℕ} → size ≤ 4000 → Verdict left left' (Some (forms.Make seed size)) status log text → Appends got got' text → Made seed size got got'
made_by fits (make seed size) a = record { reads = seeded_text-reads seed size fits; written = a }

pub made_of : (seed size : ℕ) → size ≤ 4000 → {form : Option Form} {left left' : Option (List ℕ)} {sf sf' : ℕ} {got got' : Option (List ℕ)} {kf kf' : ℕ} {status : ℕ} {log : Option RunLog} → Ends form left left' sf sf' got got' kf kf' status log → form ≡ Some (forms.Make seed size) → status ≡ 0 → Made seed size got got'
made_of seed size fits ends f e = let told = told_of (Some (forms.Make seed size)) ends f (omega (arith, e)) in made_by fits told.verdict told.written

-- what was read of a script and a report, as the whole of the bytes
parts_read : (bytes : List ℕ) (s : Script) (log : RunLog) → ScriptText (script_part bytes) s → IsReportOf s.names (report_part bytes) log → HasScriptAndReport bytes s log
parts_read bytes s log t r = record { front = script_part bytes; behind = report_part bytes; whole = parts_are_whole bytes; text = t; report = r }

-- a report that was answered with this status has a log of which this is true, and this is the line of it
record IsAnswered (judgement : Script → RunLog → Type 0) (line : List ℕ) (s : Script) (bytes text : List ℕ) : Type 0 where
  log : RunLog
  read : IsReportRead s.names bytes log
  holds : judgement s log
  text_is : text ≡ line

answered_lawful : {s : Script} {bytes : List ℕ} {status : ℕ} {log : Option RunLog} {text : List ℕ} → ReportVerdict s bytes status log text → status ≡ 0 → IsAnswered Legal lawful_text s bytes text
answered_lawful (report_refused _ q bare) e = absurd (omega arith)
answered_lawful (lawful log r l) e = record { log = log; read = r; holds = l; text_is = refl }
answered_lawful (not_lawful _ r l) e = absurd (omega arith)

answered_unlawful : {s : Script} {bytes : List ℕ} {status : ℕ} {log : Option RunLog} {text : List ℕ} → ReportVerdict s bytes status log text → status ≡ 1 → IsAnswered IsUnlawful not_lawful_text s bytes text
answered_unlawful (report_refused _ q bare) e = absurd (omega arith)
answered_unlawful (lawful _ r l) e = absurd (omega arith)
answered_unlawful (not_lawful log r l) e = record { log = log; read = r; holds = l; text_is = refl }

-- the same of a whole check
checked_by : (judgement : Script → RunLog → Type 0) (line : List ℕ) (wanted : ℕ) → wanted ≤ 1 → ((s : Script) (bytes : List ℕ) (status : ℕ) (log : Option RunLog) (text : List ℕ) → ReportVerdict s bytes status log text → status ≡ wanted → IsAnswered judgement line s bytes text)
    → {left left' got got' : Option (List ℕ)} {status : ℕ} {log : Option RunLog} {text : List ℕ} → Verdict left left' (Some forms.Check) status log text → Appends got got' text → status ≡ wanted → Checked judgement line left left' got got'
checked_by judgement line wanted few answer (check _ _ _ (whole_text _ _ _ _ r (script_refused _ q bare))) a e = absurd (omega arith)
checked_by judgement line wanted few answer {got = got} {got' = got'} (check _ _ _ (whole_text bytes _ _ _ r (judged s status log text rs v))) a e =
    let is = answer s (report_part bytes) status log text v e in
    record { bytes = bytes; script = s; log = is.log; read = r; parts = parts_read bytes s is.log rs.text is.read.report; holds = is.holds; written = subst (λ (x : List ℕ). Appends got got' x) is.text_is a }
checked_by judgement line wanted few answer (check _ _ _ (long_text l)) a e = absurd (omega arith)

pub checked_of : {form : Option Form} {left left' : Option (List ℕ)} {sf sf' : ℕ} {got got' : Option (List ℕ)} {kf kf' : ℕ} {status : ℕ} {log : Option RunLog} → Ends form left left' sf sf' got got' kf kf' status log → form ≡ Some forms.Check → status ≡ 0 → Checked Legal lawful_text left left' got got'
checked_of ends f e = let told = told_of (Some forms.Check) ends f (omega (arith, e)) in checked_by Legal lawful_text 0 (omega arith) (λ s b n l t v is. answered_lawful v is) told.verdict told.written e

pub checked_unlawful_of : {form : Option Form} {left left' : Option (List ℕ)} {sf sf' : ℕ} {got got' : Option (List ℕ)} {kf kf' : ℕ} {status : ℕ} {log : Option RunLog} → Ends form left left' sf sf' got got' kf kf' status log → form ≡ Some forms.Check → status ≡ 1 → Checked IsUnlawful not_lawful_text left left' got got'
checked_unlawful_of ends f e = let told = told_of (Some forms.Check) ends f (omega (arith, e)) in checked_by IsUnlawful not_lawful_text 1 (omega arith) (λ s b n l t v is. answered_unlawful v is) told.verdict told.written e

-- ---- the other statuses, and what is not logged

pub source_failed_of : {form : Option Form} {left left' : Option (List ℕ)} {sf sf' : ℕ} {got got' : Option (List ℕ)} {kf kf' : ℕ} {status : ℕ} {log : Option RunLog} → Ends form left left' sf sf' got got' kf kf' status log → status ≡ 4 → SourceFailed form sf sf'
source_failed_of (written status _ _ v a) e = absurd (omega (arith, known_verdict v, e))
source_failed_of (cut_off _ _ _ v r p) e = absurd (omega arith)
source_failed_of (source_failed f r) e = record { reading = f; rose = r }
source_failed_of (no_memory f) e = absurd (omega arith)

pub sink_failed_of : {form : Option Form} {left left' : Option (List ℕ)} {sf sf' : ℕ} {got got' : Option (List ℕ)} {kf kf' : ℕ} {status : ℕ} {log : Option RunLog} → Ends form left left' sf sf' got got' kf kf' status log → status ≡ 5 → SinkFailed form left left' got got' kf kf' log
sink_failed_of (written status _ _ v a) e = absurd (omega (arith, known_verdict v, e))
sink_failed_of (cut_off status log text v r p) e = record { rose = r; status = status; text = text; verdict = v; prefix = p }
sink_failed_of (source_failed f r) e = absurd (omega arith)
sink_failed_of (no_memory f) e = absurd (omega arith)

pub judged_log : {bytes : List ℕ} {status : ℕ} {log : Option RunLog} {text : List ℕ} → CheckVerdict bytes status log text → log ≡ None
judged_log (script_refused _ q bare) = refl
judged_log (judged _ _ _ _ rs v) = report_log v

check_log : {left left' : Option (List ℕ)} {status : ℕ} {log : Option RunLog} {text : List ℕ} → ReadVerdict LONGEST_CHECK left left' CheckVerdict status log text → log ≡ None
check_log (whole_text _ _ _ _ r v) = judged_log v
check_log (long_text l) = refl

pub replayed_log : {bytes : List ℕ} {status : ℕ} {log : Option RunLog} {text : List ℕ} → ListVerdict bytes status log text → log ≡ None
replayed_log (replay _ _ _ _ t v) = replay_log v
replayed_log (fault _ e) = refl

list_log : {left left' : Option (List ℕ)} {status : ℕ} {log : Option RunLog} {text : List ℕ} → ReadVerdict LONGEST_SCRIPT left left' ListVerdict status log text → log ≡ None
list_log (whole_text _ _ _ _ r v) = replayed_log v
list_log (long_text l) = refl

no_log_verdict : {left left' : Option (List ℕ)} {form : Option Form} {status : ℕ} {log : Option RunLog} {text : List ℕ} → Verdict left left' form status log text → status ≢ 0 → log ≡ None
no_log_verdict (run _ _ _ _ (whole_text _ _ _ _ r (report _ _ _ _ t h (made _ _ l k e)))) d = absurd (d refl)
no_log_verdict (check _ _ _ v) d = check_log v
no_log_verdict (progress _ _ _ v) d = list_log v
no_log_verdict (trial _ _ _ _ _ _ (tried _ l)) d = absurd (d refl)
no_log_verdict v d = refl

pub no_log_of : {form : Option Form} {left left' : Option (List ℕ)} {sf sf' : ℕ} {got got' : Option (List ℕ)} {kf kf' : ℕ} {status : ℕ} {log : Option RunLog} → Ends form left left' sf sf' got got' kf kf' status log → status ≢ 0 → status ≢ 5 → log ≡ None
no_log_of (written _ _ _ v a) d c = no_log_verdict v d
no_log_of (cut_off _ _ _ v r p) d c = absurd (c refl)
no_log_of (source_failed f r) d c = refl
no_log_of (no_memory f) d c = refl

no_log_by_form : {left left' : Option (List ℕ)} {form : Option Form} {status : ℕ} {log : Option RunLog} {text : List ℕ} → Verdict left left' form status log text → runs form ≡ false → log ≡ None
no_log_by_form misread f = refl
no_log_by_form (run _ _ _ _ v) f = absurd cc
no_log_by_form (check _ _ _ v) f = check_log v
no_log_by_form (progress _ _ _ v) f = list_log v
no_log_by_form (make _ _) f = refl
no_log_by_form (trial _ _ _ _ _ _ v) f = absurd cc

pub no_log_unrun_of : {form : Option Form} {left left' : Option (List ℕ)} {sf sf' : ℕ} {got got' : Option (List ℕ)} {kf kf' : ℕ} {status : ℕ} {log : Option RunLog} → Ends form left left' sf sf' got got' kf kf' status log → runs form ≡ false → log ≡ None
no_log_unrun_of (written _ _ _ v a) f = no_log_by_form v f
no_log_unrun_of (cut_off _ _ _ v r p) f = no_log_by_form v f
no_log_unrun_of (source_failed g r) f = refl
no_log_unrun_of (no_memory g) f = refl

-- ---- how a call comes to its end

-- how a call ended whose text was delivered
ends_delivered : (form : Option Form) (left left' : Option (List ℕ)) (sf sf' : ℕ) (got got' : Option (List ℕ)) (kf kf' : ℕ) (status : ℕ) (log : Option RunLog) (text : List ℕ) (status' : ℕ) → Verdict left left' form status log text → Delivered got got' kf kf' status text status' → Ends form left left' sf sf' got got' kf kf' status' log
ends_delivered form left left' sf sf' got got' kf kf' status log text _ v (whole a) = written status log text v a
ends_delivered form left left' sf sf' got got' kf kf' status log text _ v (cut r p) = cut_off status log text v r p

-- what was delivered of a text, as what was delivered of one that it is equal to
pub delivered_by : (got got' : Option (List ℕ)) (kf kf' status : ℕ) (text slice : List ℕ) (status' : ℕ) → slice ≡ text → Delivered got got' kf kf' status slice status' → Delivered got got' kf kf' status text status'
delivered_by got got' kf kf' status text slice status' same d = subst (λ (x : List ℕ). Delivered got got' kf kf' status x status') same d

-- the same, where form, text and log are equal to those of the verdict
pub ends_of : (f form : Option Form) (left left' : Option (List ℕ)) (sf sf' : ℕ) (got got' : Option (List ℕ)) (kf kf' : ℕ) (status : ℕ) (log log' : Option RunLog) (text slice : List ℕ) (status' : ℕ) → f ≡ form → log' ≡ log → slice ≡ text → Verdict left left' form status log text → Delivered got got' kf kf' status slice status' → Ends f left left' sf sf' got got' kf kf' status' log'
ends_of f form left left' sf sf' got got' kf kf' status log log' text slice status' fe le te v d =
    subst (λ (x : Option Form). Ends x left left' sf sf' got got' kf kf' status' log') (sym fe)
    (subst (λ (x : Option RunLog). Ends form left left' sf sf' got got' kf kf' status' x) (sym le)
    (ends_delivered form left left' sf sf' got got' kf kf' status log text status' v (subst (λ (x : List ℕ). Delivered got got' kf kf' status x status') te d)))

-- a delivered text never has the status of a source's fault, or of refused memory
pub not_stopped : {left left' : Option (List ℕ)} {form : Option Form} {status : ℕ} {log : Option RunLog} {text : List ℕ} {got got' : Option (List ℕ)} {kf kf' : ℕ} {slice : List ℕ} {status' : ℕ} → Verdict left left' form status log text → Delivered got got' kf kf' status slice status' → (status' ≡ 4 → ⊥) × (status' ≡ 6 → ⊥)
not_stopped v (whole a) = let known = known_verdict v in (λ e. omega arith, λ e. omega arith)
not_stopped v (cut r p) = (λ e. omega arith, λ e. omega arith)

-- a form that was found is one
pub is_form : (f : Option Form) (form : Form) → f ≡ Some form → f ≢ None
is_form f form e n = absurd cc

-- how a call ended that wrote nothing, since the source failed
pub ends_source : (f : Option Form) (left left' : Option (List ℕ)) (sf sf' : ℕ) (got got' : Option (List ℕ)) (kf kf' : ℕ) (status : ℕ) (log : Option RunLog) → IsTrue (reads f) → Rose sf sf' → (status ≡ 4) × (log ≡ None) → Ends f left left' sf sf' got got' kf kf' status log
ends_source f left left' sf sf' got got' kf kf' status log fe r s =
    subst (λ (n : ℕ). Ends f left left' sf sf' got got' kf kf' n log) (sym s.0)
    (subst (λ (l : Option RunLog). Ends f left left' sf sf' got got' kf kf' 4 l) (sym s.1) (source_failed fe r))

-- how a call ended that wrote nothing, since memory was refused
pub ends_memory : (f : Option Form) (left left' : Option (List ℕ)) (sf sf' : ℕ) (got got' : Option (List ℕ)) (kf kf' : ℕ) (status : ℕ) (log : Option RunLog) → f ≢ None → (status ≡ 6) × (log ≡ None) → Ends f left left' sf sf' got got' kf kf' status log
ends_memory f left left' sf sf' got got' kf kf' status log fe s =
    subst (λ (n : ℕ). Ends f left left' sf sf' got got' kf kf' n log) (sym s.0)
    (subst (λ (l : Option RunLog). Ends f left left' sf sf' got got' kf kf' 6 l) (sym s.1) (no_memory fe))
