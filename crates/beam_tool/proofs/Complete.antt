-- Where no count of faults rose, a call has the status whose condition holds, or memory was refused.
use Rattle.std.proofs.Common.{◌≡◌, ◌≢◌, ℕ, zero, suc, ◌-◌, ◌<◌, ◌≤◌, ◌++◌, List, [], ◌∷◌, length, take, slice_get, Option, Some, None, Ok, false, refl, sym, ap, subst, arith, inl, inr, ◌⊎◌, ◌∙◌}
use Rattle.std.specs.Prelude.{IsSomeAnd}
use Rattle.std.specs.Option.{option_and_then}
use Rattle.prgr_core.specs.declared.event.Events.{Events}
use Rattle.prgr_core.specs.declared.event.PrgrEvent.{PrgrEvent}
use Rattle.prgr_core.specs.declared.progress.Progress.{Progress}
use Rattle.prgr_core.specs.EventText.{EventText}
use Rattle.prgr_core.specs.Step.{after, after_all, progress_opening, StopsAt}
use Rattle.prgr_core.proofs.Grammars.{reading_complete}
use Rattle.outside.specs.declared.check_input.TheConstants.{LONGEST_CHECK}
use Rattle.outside.specs.Inputs.{HasFaultyReport, HasScriptAndReport, IsReportOf, IsScriptRead, IsTooLong, WasRead}
use Rattle.outside.specs.Outside.{Rose}
use Rattle.outside.specs.Parting.{script_part, report_part}
use Rattle.outside.proofs.ScriptParts.{part_behind_script, part_of_script}
use Rattle.report_text.specs.declared.fault.ReportFault.{ReportFault}
use Rattle.report_text.specs.ReportText.{FaultOf as ReportFaultOf}
use Rattle.run_log.specs.declared.logs.RunLog.{RunLog}
use Rattle.run_log.specs.Legal.{Legal}
use Rattle.script_core.specs.declared.script.TheConstants.{LONGEST_SCRIPT}
use Rattle.script_core.specs.declared.script.Script.{Script}
use Rattle.script_text.specs.declared.fault.ScriptFault.{ScriptFault}
use Rattle.script_text.specs.ScriptText.{ScriptText, FaultOf}
use Rattle.beam_tool.specs.declared.form.Form.{Form}
use Rattle.beam_tool.specs.declared.form.Form.TheVariants as forms
use Rattle.beam_tool.specs.TopCall.{Ends, IsNoList, IsUnlawful, ReplayOf, ReportVerdict, Verdict, all_made, check, cut_off, fault, judged, lawful, long_text, made, make, misread, no_memory, not_lawful, progress, reads, refusal, replay, report, report_refused, run, script_refused, source_failed, stopped, tried, trial, whole_text, written}
use Rattle.beam_tool.proofs.TopCalls.{known_verdict}

-- a text that was read is the told one
told_is : {limit : ℕ} {left left' : Option (List ℕ)} {bytes read : List ℕ} → left ≡ Some bytes → WasRead limit left left' read → bytes ≡ read
told_is {left = None} e r = absurd cc
told_is {left = Some told} {bytes = bytes} e r = let same : bytes ≡ told = cc in same ∙ r.told

-- a text over the limit is the told one
long_is : (limit : ℕ) (left : Option (List ℕ)) (bytes : List ℕ) → left ≡ Some bytes → IsTooLong limit left → limit < length bytes
long_is limit None bytes e l = absurd cc
long_is limit (Some told) bytes e l = let same : told ≡ bytes = cc in subst (λ (x : List ℕ). limit < length x) same l

-- the status that each verdict on these words has is that of the call, or memory was refused
quiet_of : (found : Option Form) (wanted : ℕ) → {form : Option Form} {left left' : Option (List ℕ)} {sf sf' : ℕ} {got got' : Option (List ℕ)} {kf kf' : ℕ} {status : ℕ} {log : Option RunLog} → Ends form left left' sf sf' got got' kf kf' status log → form ≡ found → (Rose sf sf' → ⊥) → (Rose kf kf' → ⊥)
    → ((status : ℕ) (log : Option RunLog) (text : List ℕ) → Verdict left left' found status log text → status ≡ wanted) → (status ≡ wanted) ⊎ (status ≡ 6)
quiet_of found wanted {left = left} {left' = left'} (written status log text v a) f ns nk same = inl (same status log text (subst (λ (x : Option Form). Verdict left left' x status log text) f v))
quiet_of found wanted (cut_off _ _ _ v r p) f ns nk same = absurd (nk r)
quiet_of found wanted (source_failed g r) f ns nk same = absurd (ns r)
quiet_of found wanted (no_memory g) f ns nk same = inr refl

-- the same of words that do not read
unread_of : (found : Option Form) (wanted : ℕ) → (reads found ≡ false) → {form : Option Form} {left left' : Option (List ℕ)} {sf sf' : ℕ} {got got' : Option (List ℕ)} {kf kf' : ℕ} {status : ℕ} {log : Option RunLog} → Ends form left left' sf sf' got got' kf kf' status log → form ≡ found → (Rose kf kf' → ⊥)
    → ((status : ℕ) (log : Option RunLog) (text : List ℕ) → Verdict left left' found status log text → status ≡ wanted) → (status ≡ wanted) ⊎ (status ≡ 6)
unread_of found wanted unread {left = left} {left' = left'} (written status log text v a) f nk same = inl (same status log text (subst (λ (x : Option Form). Verdict left left' x status log text) f v))
unread_of found wanted unread (cut_off _ _ _ v r p) f nk same = absurd (nk r)
unread_of found wanted unread (source_failed g r) f nk same = let none = ap reads f ∙ unread in absurd cc
unread_of found wanted unread (no_memory g) f nk same = inr refl

-- ---- words of no form

pub misread_of : {form : Option Form} {left left' : Option (List ℕ)} {sf sf' : ℕ} {got got' : Option (List ℕ)} {kf kf' : ℕ} {status : ℕ} {log : Option RunLog} → Ends form left left' sf sf' got got' kf kf' status log → form ≡ None → status ≢ 6
misread_of (written _ _ _ v a) e = λ six. omega (arith, known_verdict v, six)
misread_of (cut_off _ _ _ v r p) e = λ six. omega (arith, six)
misread_of (source_failed f r) e = λ six. omega (arith, six)
misread_of (no_memory f) e = absurd (f e)

misread_status : {left left' : Option (List ℕ)} {status : ℕ} {log : Option RunLog} {text : List ℕ} → Verdict left left' None status log text → status ≡ 2
misread_status misread = refl

pub complete_words_of : {form : Option Form} {left left' : Option (List ℕ)} {sf sf' : ℕ} {got got' : Option (List ℕ)} {kf kf' : ℕ} {status : ℕ} {log : Option RunLog} → Ends form left left' sf sf' got got' kf kf' status log → form ≡ None → Rose kf kf' ⊎ (status ≡ 2)
complete_words_of {left = left} {left' = left'} (written status log text v a) f = inr (misread_status (subst (λ (x : Option Form). Verdict left left' x status log text) f v))
complete_words_of (cut_off _ _ _ v r p) f = inl r
complete_words_of (source_failed g r) f = let none = ap reads f in absurd cc
complete_words_of (no_memory g) f = absurd (g f)

-- ---- a run

run_status : {n : ℕ} {left left' : Option (List ℕ)} {status : ℕ} {log : Option RunLog} {text : List ℕ} (bytes : List ℕ) (s : Script) → left ≡ Some bytes → ScriptText bytes s → Verdict left left' (Some (forms.Run n)) status log text → status ≡ 0
run_status bytes s l t (run _ _ _ _ (whole_text _ _ _ _ r (report _ _ _ _ _ _ (made _ _ _ _ _)))) = refl
run_status bytes s l t (run _ _ _ _ (whole_text _ _ _ _ r (refusal _ q bare))) = absurd (bare s (subst (λ (x : List ℕ). ScriptText x s) (told_is l r) t))
run_status {left = left} bytes s l t (run _ _ _ _ (long_text long)) = absurd (omega (arith, long_is LONGEST_SCRIPT left bytes l long, t.whole.short))

pub complete_run_of : {form : Option Form} {left left' : Option (List ℕ)} {sf sf' : ℕ} {got got' : Option (List ℕ)} {kf kf' : ℕ} {status : ℕ} {log : Option RunLog} (n : ℕ) (bytes : List ℕ) (s : Script) → Ends form left left' sf sf' got got' kf kf' status log → form ≡ Some (forms.Run n) → left ≡ Some bytes → ScriptText bytes s → (Rose sf sf' → ⊥) → (Rose kf kf' → ⊥) → (status ≡ 0) ⊎ (status ≡ 6)
complete_run_of n bytes s ends f l t ns nk = quiet_of (Some (forms.Run n)) 0 ends f ns nk (λ k g x v. run_status bytes s l t v)

refusal_status : {n : ℕ} {left left' : Option (List ℕ)} {status : ℕ} {log : Option RunLog} {text : List ℕ} (bytes : List ℕ) (q : ScriptFault) → left ≡ Some bytes → FaultOf bytes q → Verdict left left' (Some (forms.Run n)) status log text → status ≡ 3
refusal_status bytes q l t (run _ _ _ _ (whole_text _ _ _ _ r (report _ _ _ _ _ sane (made _ _ _ _ _)))) = absurd (sane q (subst (λ (b : List ℕ). FaultOf b q) (told_is l r) t))
refusal_status bytes q l t (run _ _ _ _ (whole_text _ _ _ _ r (refusal _ _ _))) = refl
refusal_status bytes q l t (run _ _ _ _ (long_text long)) = refl

pub complete_refusal_of : {form : Option Form} {left left' : Option (List ℕ)} {sf sf' : ℕ} {got got' : Option (List ℕ)} {kf kf' : ℕ} {status : ℕ} {log : Option RunLog} (n : ℕ) (bytes : List ℕ) (q : ScriptFault) → Ends form left left' sf sf' got got' kf kf' status log → form ≡ Some (forms.Run n) → left ≡ Some bytes → FaultOf bytes q → (Rose sf sf' → ⊥) → (Rose kf kf' → ⊥) → (status ≡ 3) ⊎ (status ≡ 6)
complete_refusal_of n bytes q ends f l t ns nk = quiet_of (Some (forms.Run n)) 3 ends f ns nk (λ k g x v. refusal_status bytes q l t v)

-- ---- a check

-- what was told is a script's text and a report's, and so are the two parts of what was read
record PartsAre (read : List ℕ) (s : Script) (P : List ℕ → Type 0) : Type 0 where
  text : ScriptText (script_part read) s
  behind : P (report_part read)

told_parts : (P : List ℕ → Type 0) (bytes read front behind : List ℕ) (s : Script) → bytes ≡ read → bytes ≡ front ++ behind → ScriptText front s → P behind → PartsAre read s P
told_parts P bytes read front behind s same w t p =
    let both : front ++ behind ≡ read = sym w ∙ same in
    record {
      text = subst (λ (x : List ℕ). ScriptText x s) (sym (part_of_script front behind s t) ∙ ap script_part both) t;
      behind = subst P (sym (part_behind_script front behind s t) ∙ ap report_part both) p;
    }

-- the answer to a report, for the script and the log that stand there
lawful_status : {s t : Script} {bytes : List ℕ} {status : ℕ} {log : Option RunLog} {text : List ℕ} (l : RunLog) → s ≡ t → IsReportOf s.names bytes l → Legal s l → ReportVerdict t bytes status log text → status ≡ 0
lawful_status {bytes = bytes} l same r legal (report_refused _ q bare) = absurd (bare l (subst (λ (x : Script). IsReportOf x.names bytes l) same r))
lawful_status l same r legal (lawful _ _ _) = refl
lawful_status {s = s} {t = t} {bytes = bytes} l same r legal (not_lawful m read never) =
    let one : l ≡ m = read.only l (subst (λ (x : Script). IsReportOf x.names bytes l) same r) in
    absurd (never (subst (λ (x : RunLog). Legal t x) one (subst (λ (x : Script). Legal x l) same legal)))

unlawful_status : {s t : Script} {bytes : List ℕ} {status : ℕ} {log : Option RunLog} {text : List ℕ} (l : RunLog) → s ≡ t → IsReportOf s.names bytes l → IsUnlawful s l → ReportVerdict t bytes status log text → status ≡ 1
unlawful_status {bytes = bytes} l same r never (report_refused _ q bare) = absurd (bare l (subst (λ (x : Script). IsReportOf x.names bytes l) same r))
unlawful_status {s = s} {t = t} {bytes = bytes} l same r never (lawful m read legal) =
    let one : l ≡ m = read.only l (subst (λ (x : Script). IsReportOf x.names bytes l) same r) in
    absurd (never (subst (λ (x : Script). Legal x l) (sym same) (subst (λ (x : RunLog). Legal t x) (sym one) legal)))
unlawful_status l same r never (not_lawful _ _ _) = refl

faulty_status : {s t : Script} {bytes : List ℕ} {status : ℕ} {log : Option RunLog} {text : List ℕ} (q : ReportFault) → s ≡ t → ReportFaultOf s.names bytes q → ReportVerdict t bytes status log text → status ≡ 3
faulty_status q same f (report_refused _ _ _) = refl
faulty_status {bytes = bytes} q same f (lawful _ read _) = absurd (read.sane q (subst (λ (x : Script). ReportFaultOf x.names bytes q) same f))
faulty_status {bytes = bytes} q same f (not_lawful _ read _) = absurd (read.sane q (subst (λ (x : Script). ReportFaultOf x.names bytes q) same f))

-- the answer of a check whose input has a script's text in front, of which behind it this is true
told_status : (P : List ℕ → Type 0) (wanted : ℕ) (bytes front behind : List ℕ) (s : Script) → bytes ≡ front ++ behind → ScriptText front s → P behind
    → ((t : Script) (b : List ℕ) (status : ℕ) (log : Option RunLog) (text : List ℕ) → s ≡ t → P b → ReportVerdict t b status log text → status ≡ wanted)
    → {left left' : Option (List ℕ)} {status : ℕ} {log : Option RunLog} {text : List ℕ} → left ≡ Some bytes → (LONGEST_CHECK < length bytes → 3 ≡ wanted) → Verdict left left' (Some forms.Check) status log text → status ≡ wanted
told_status P wanted bytes front behind s w t p answer l long (check _ _ _ (whole_text read _ _ _ r (script_refused _ q bare))) =
    absurd (bare s (told_parts P bytes read front behind s (told_is l r) w t p).text)
told_status P wanted bytes front behind s w t p answer l long (check _ _ _ (whole_text read _ _ _ r (judged found status log text rs v))) =
    let parts = told_parts P bytes read front behind s (told_is l r) w t p in
    answer found (report_part read) status log text (rs.only s parts.text) parts.behind v
told_status P wanted bytes front behind s w t p answer {left = left} l long (check _ _ _ (long_text over)) = long (long_is LONGEST_CHECK left bytes l over)

pub complete_lawful_of : {form : Option Form} {left left' : Option (List ℕ)} {sf sf' : ℕ} {got got' : Option (List ℕ)} {kf kf' : ℕ} {status : ℕ} {log : Option RunLog} (bytes : List ℕ) (s : Script) (l : RunLog) → Ends form left left' sf sf' got got' kf kf' status log → form ≡ Some forms.Check → left ≡ Some bytes → length bytes ≤ LONGEST_CHECK → HasScriptAndReport bytes s l → Legal s l → (Rose sf sf' → ⊥) → (Rose kf kf' → ⊥) → (status ≡ 0) ⊎ (status ≡ 6)
complete_lawful_of bytes s l ends f told short h legal ns nk =
    quiet_of (Some forms.Check) 0 ends f ns nk (λ k g x v. told_status (λ b. IsReportOf s.names b l) 0 bytes h.front h.behind s h.whole h.text h.report (λ t b n m y same r u. lawful_status l same r legal u) told (λ over. absurd (omega (arith, over, short))) v)

pub complete_unlawful_of : {form : Option Form} {left left' : Option (List ℕ)} {sf sf' : ℕ} {got got' : Option (List ℕ)} {kf kf' : ℕ} {status : ℕ} {log : Option RunLog} (bytes : List ℕ) (s : Script) (l : RunLog) → Ends form left left' sf sf' got got' kf kf' status log → form ≡ Some forms.Check → left ≡ Some bytes → length bytes ≤ LONGEST_CHECK → HasScriptAndReport bytes s l → IsUnlawful s l → (Rose sf sf' → ⊥) → (Rose kf kf' → ⊥) → (status ≡ 1) ⊎ (status ≡ 6)
complete_unlawful_of bytes s l ends f told short h never ns nk =
    quiet_of (Some forms.Check) 1 ends f ns nk (λ k g x v. told_status (λ b. IsReportOf s.names b l) 1 bytes h.front h.behind s h.whole h.text h.report (λ t b n m y same r u. unlawful_status l same r never u) told (λ over. absurd (omega (arith, over, short))) v)

pub complete_report_fault_of : {form : Option Form} {left left' : Option (List ℕ)} {sf sf' : ℕ} {got got' : Option (List ℕ)} {kf kf' : ℕ} {status : ℕ} {log : Option RunLog} (bytes : List ℕ) (s : Script) (q : ReportFault) → Ends form left left' sf sf' got got' kf kf' status log → form ≡ Some forms.Check → left ≡ Some bytes → HasFaultyReport bytes s q → (Rose sf sf' → ⊥) → (Rose kf kf' → ⊥) → (status ≡ 3) ⊎ (status ≡ 6)
complete_report_fault_of bytes s q ends f told h ns nk =
    quiet_of (Some forms.Check) 3 ends f ns nk (λ k g x v. told_status (λ b. ReportFaultOf s.names b q) 3 bytes h.front h.behind s h.whole h.text h.fault (λ t b n m y same r u. faulty_status q same r u) told (λ over. refl) v)

-- a script's part that is over the limit or faulty is none that was read
no_part : (bytes read : List ℕ) (q : ScriptFault) (s : Script) → bytes ≡ read → length read ≤ LONGEST_CHECK → IsScriptRead (script_part read) s → (LONGEST_CHECK < length bytes) ⊎ FaultOf (script_part bytes) q → ⊥
no_part bytes read q s same short is (inl long) = omega (arith, long, short, ap length same)
no_part bytes read q s same short is (inr f) = is.sane q (subst (λ (x : List ℕ). FaultOf (script_part x) q) same f)

script_fault_status : {left left' : Option (List ℕ)} {status : ℕ} {log : Option RunLog} {text : List ℕ} (bytes : List ℕ) (q : ScriptFault) → left ≡ Some bytes → (LONGEST_CHECK < length bytes) ⊎ FaultOf (script_part bytes) q → Verdict left left' (Some forms.Check) status log text → status ≡ 3
script_fault_status bytes q l f (check _ _ _ (whole_text _ _ _ _ r (script_refused _ _ _))) = refl
script_fault_status bytes q l f (check _ _ _ (whole_text read _ _ _ r (judged s _ _ _ rs v))) = absurd (no_part bytes read q s (told_is l r) r.short rs f)
script_fault_status bytes q l f (check _ _ _ (long_text long)) = refl

pub complete_script_fault_of : {form : Option Form} {left left' : Option (List ℕ)} {sf sf' : ℕ} {got got' : Option (List ℕ)} {kf kf' : ℕ} {status : ℕ} {log : Option RunLog} (bytes : List ℕ) (q : ScriptFault) → Ends form left left' sf sf' got got' kf kf' status log → form ≡ Some forms.Check → left ≡ Some bytes → (LONGEST_CHECK < length bytes) ⊎ FaultOf (script_part bytes) q → (Rose sf sf' → ⊥) → (Rose kf kf' → ⊥) → (status ≡ 3) ⊎ (status ≡ 6)
complete_script_fault_of bytes q ends f l t ns nk = quiet_of (Some forms.Check) 3 ends f ns nk (λ k g x v. script_fault_status bytes q l t v)

-- ---- an event list

-- the event lists that one text has are one
one_list : (bytes : List ℕ) (es fs : Events) → EventText bytes es → EventText bytes fs → es ≡ fs
one_list bytes es fs t u = let same : Ok es ≡ Ok fs = sym (reading_complete bytes es t) ∙ reading_complete bytes fs u in cc

-- where the events so far lead to a state, and the one from there leads nowhere, all of them do
through : (f g : Progress → Option Progress) (state : Progress) (o : Option Progress) → option_and_then f o ≡ Some state → ((next : Progress) → f next ≡ Some state → g next ≡ None) → option_and_then g o ≡ None
through f g state None e h = refl
through f g state (Some next) e h = h next e

-- events of which one is not enabled lead nowhere
stop_at : (events : List PrgrEvent) (k : ℕ) (start state : Progress) → after_all start (take k events) ≡ Some state → IsSomeAnd (slice_get events k) (λ event. after state event ≡ None) → after_all start events ≡ None
stop_at [] k start state b r = absurd r
stop_at (event ∷ events) zero start state b r =
    let same : start ≡ state = cc in
    ap (option_and_then (λ next. after_all next events)) (subst (λ (s : Progress). after s event ≡ None) (sym same) r)
stop_at (event ∷ events) (suc k) start state b r = through (λ next. after_all next (take k events)) (λ next. after_all next events) state (after start event) b (λ next e. stop_at events k next state e r)

-- a list whose events were all made has none that is not enabled
never_stops : (start : Progress) (events : List PrgrEvent) (index : ℕ) (state end : Progress) → after_all start events ≡ Some end → StopsAt start events index state → ⊥
never_stops start events index state end m s = let n = stop_at events (index - 1) start state s.before s.refused in absurd cc

made_status : {events : Events} {status : ℕ} {log : Option RunLog} {text : List ℕ} (state : Progress) → after_all (progress_opening events.members events.watchers) events.list ≡ Some state → ReplayOf events status log text → status ≡ 0
made_status state m (all_made _ _) = refl
made_status {events = events} state m (stopped index t s) = absurd (never_stops (progress_opening events.members events.watchers) events.list index t state m s)

stopped_status : {events : Events} {status : ℕ} {log : Option RunLog} {text : List ℕ} (index : ℕ) (state : Progress) → StopsAt (progress_opening events.members events.watchers) events.list index state → ReplayOf events status log text → status ≡ 1
stopped_status {events = events} index state s (all_made t m) = absurd (never_stops (progress_opening events.members events.watchers) events.list index state t m s)
stopped_status index state s (stopped _ _ _) = refl

-- the answer to a told event list is that to the list that was read
told_list : {limit : ℕ} {left left' : Option (List ℕ)} {bytes read : List ℕ} {events found : Events} {status : ℕ} {log : Option RunLog} {text : List ℕ} → left ≡ Some bytes → WasRead limit left left' read → EventText bytes events → EventText read found → ReplayOf found status log text → ReplayOf events status log text
told_list {bytes = bytes} {events = events} {found = found} {status = status} {log = log} {text = text} l r t u v =
    let same : found ≡ events = one_list bytes found events (subst (λ (x : List ℕ). EventText x found) (sym (told_is l r)) u) t in
    subst (λ (es : Events). ReplayOf es status log text) same v

-- the answer to what was told, of which this is true where it is a list of events
list_status : (wanted : ℕ) {left left' : Option (List ℕ)} {status : ℕ} {log : Option RunLog} {text : List ℕ} (bytes : List ℕ) (events : Events) → left ≡ Some bytes → length bytes ≤ LONGEST_SCRIPT → EventText bytes events
    → ((status : ℕ) (log : Option RunLog) (text : List ℕ) → ReplayOf events status log text → status ≡ wanted) → Verdict left left' (Some forms.Progress) status log text → status ≡ wanted
list_status wanted bytes events l s t answer (progress _ _ _ (whole_text _ _ _ _ r (replay _ status log text u v))) = answer status log text (told_list l r t u v)
list_status wanted bytes events l s t answer (progress _ _ _ (whole_text read _ _ _ r (fault line f))) = absurd (f.none events (subst (λ (x : List ℕ). EventText x events) (told_is l r) t))
list_status wanted {left = left} bytes events l s t answer (progress _ _ _ (long_text long)) = absurd (omega (arith, long_is LONGEST_SCRIPT left bytes l long, s))

pub complete_replay_of : {form : Option Form} {left left' : Option (List ℕ)} {sf sf' : ℕ} {got got' : Option (List ℕ)} {kf kf' : ℕ} {status : ℕ} {log : Option RunLog} (bytes : List ℕ) (events : Events) (state : Progress) → Ends form left left' sf sf' got got' kf kf' status log → form ≡ Some forms.Progress → left ≡ Some bytes → length bytes ≤ LONGEST_SCRIPT → EventText bytes events → after_all (progress_opening events.members events.watchers) events.list ≡ Some state → (Rose sf sf' → ⊥) → (Rose kf kf' → ⊥) → (status ≡ 0) ⊎ (status ≡ 6)
complete_replay_of bytes events state ends f l s t m ns nk = quiet_of (Some forms.Progress) 0 ends f ns nk (λ k g x v. list_status 0 bytes events l s t (λ n h y u. made_status state m u) v)

pub complete_stop_of : {form : Option Form} {left left' : Option (List ℕ)} {sf sf' : ℕ} {got got' : Option (List ℕ)} {kf kf' : ℕ} {status : ℕ} {log : Option RunLog} (bytes : List ℕ) (events : Events) (index : ℕ) (state : Progress) → Ends form left left' sf sf' got got' kf kf' status log → form ≡ Some forms.Progress → left ≡ Some bytes → length bytes ≤ LONGEST_SCRIPT → EventText bytes events → StopsAt (progress_opening events.members events.watchers) events.list index state → (Rose sf sf' → ⊥) → (Rose kf kf' → ⊥) → (status ≡ 1) ⊎ (status ≡ 6)
complete_stop_of bytes events index state ends f l s t m ns nk = quiet_of (Some forms.Progress) 1 ends f ns nk (λ k g x v. list_status 1 bytes events l s t (λ n h y u. stopped_status index state m u) v)

-- a text that is over the limit or no list is no event list that was read
no_list : (bytes read : List ℕ) (events : Events) → bytes ≡ read → length read ≤ LONGEST_SCRIPT → EventText read events → (LONGEST_SCRIPT < length bytes) ⊎ IsNoList bytes → ⊥
no_list bytes read events same short t (inl long) = omega (arith, long, short, ap length same)
no_list bytes read events same short t (inr none) = none events (subst (λ (x : List ℕ). EventText x events) (sym same) t)

list_fault_status : {left left' : Option (List ℕ)} {status : ℕ} {log : Option RunLog} {text : List ℕ} (bytes : List ℕ) → left ≡ Some bytes → (LONGEST_SCRIPT < length bytes) ⊎ IsNoList bytes → Verdict left left' (Some forms.Progress) status log text → status ≡ 3
list_fault_status bytes l f (progress _ _ _ (whole_text read _ _ _ r (replay events _ _ _ t _))) = absurd (no_list bytes read events (told_is l r) r.short t f)
list_fault_status bytes l f (progress _ _ _ (whole_text _ _ _ _ r (fault _ _))) = refl
list_fault_status bytes l f (progress _ _ _ (long_text long)) = refl

pub complete_fault_of : {form : Option Form} {left left' : Option (List ℕ)} {sf sf' : ℕ} {got got' : Option (List ℕ)} {kf kf' : ℕ} {status : ℕ} {log : Option RunLog} (bytes : List ℕ) → Ends form left left' sf sf' got got' kf kf' status log → form ≡ Some forms.Progress → left ≡ Some bytes → (LONGEST_SCRIPT < length bytes) ⊎ IsNoList bytes → (Rose sf sf' → ⊥) → (Rose kf kf' → ⊥) → (status ≡ 3) ⊎ (status ≡ 6)
complete_fault_of bytes ends f l t ns nk = quiet_of (Some forms.Progress) 3 ends f ns nk (λ k g x v. list_fault_status bytes l t v)

-- ---- a made script

made_done : {seed size : ℕ} {left left' : Option (List ℕ)} {status : ℕ} {log : Option RunLog} {text : List ℕ} → Verdict left left' (Some (forms.Make seed size)) status log text → status ≡ 0
made_done (make _ _) = refl

pub complete_make_of : {form : Option Form} {left left' : Option (List ℕ)} {sf sf' : ℕ} {got got' : Option (List ℕ)} {kf kf' : ℕ} {status : ℕ} {log : Option RunLog} (seed size : ℕ) → Ends form left left' sf sf' got got' kf kf' status log → form ≡ Some (forms.Make seed size) → (Rose kf kf' → ⊥) → (status ≡ 0) ⊎ (status ≡ 6)
complete_make_of seed size ends f nk = unread_of (Some (forms.Make seed size)) 0 refl ends f nk (λ k g x v. made_done v)

tried_done : {seed size n : ℕ} {left left' : Option (List ℕ)} {status : ℕ} {log : Option RunLog} {text : List ℕ} → Verdict left left' (Some (forms.Trial seed size n)) status log text → status ≡ 0
tried_done (trial _ _ _ _ _ _ (tried _ l)) = refl

pub complete_trial_of : {form : Option Form} {left left' : Option (List ℕ)} {sf sf' : ℕ} {got got' : Option (List ℕ)} {kf kf' : ℕ} {status : ℕ} {log : Option RunLog} (seed size schedulers : ℕ) → Ends form left left' sf sf' got got' kf kf' status log → form ≡ Some (forms.Trial seed size schedulers) → (Rose kf kf' → ⊥) → (status ≡ 0) ⊎ (status ≡ 6)
complete_trial_of seed size n ends f nk = unread_of (Some (forms.Trial seed size n)) 0 refl ends f nk (λ k g x v. tried_done v)
