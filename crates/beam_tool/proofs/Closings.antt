-- A call answers the table that its run closed beside the log of this run, and neither where it made none.
use Rattle.std.proofs.Common.{◌≡◌, ◌≢◌, ℕ, List, Option, Some, None, refl, sym, subst}
use Rattle.std.specs.Prelude.{◌↔◌}
use Rattle.shared_words.specs.declared.closing.Closed.{Closed}
use Rattle.script_core.specs.declared.script.TheConstants.{LONGEST_SCRIPT}
use Rattle.script_core.specs.declared.script.Script.{Script}
use Rattle.script_text.specs.ScriptText.{ScriptText}
use Rattle.run_log.specs.declared.logs.RunLog.{RunLog}
use Rattle.run_log.specs.Legal.{Legal}
use Rattle.outside.specs.Inputs.{WasRead}
use Rattle.beam_tool.specs.declared.form.Form.{Form}
use Rattle.beam_tool.specs.declared.form.Form.TheVariants as forms
use Rattle.beam_tool.specs.TopCall.{seeded_script}
use Rattle.beam_tool.specs.ClosedTables.{Closing, ClosingBy, ClosingOf, ClosingRead, HasTable, HasTableOfMade, IsTableOf, IsUnrun, by_run, by_trial, no_run, no_script, of_bytes, of_script, ran, too_long, unrun}

-- ---- what each step of a call comes to

by_unrun : (P : Option RunLog → Option Closed → Type 0) (log : Option RunLog) (closed : Option Closed) → IsUnrun log closed → P None None → P log closed
by_unrun P log closed u p = subst (λ (x : Option RunLog). P x closed) (sym u.0) (subst (P None) (sym u.1) p)

-- the log and the table of the run of a script that a seed and a size make
pub made_closing : (seed size : ℕ) (s : Script) (log : RunLog) (table : Closed) → s ≡ seeded_script seed size → Legal s log → IsTableOf s log table → Closing (seeded_script seed size) (Some log) (Some table)
made_closing seed size s log table same legal t = subst (λ (x : Script). Closing x (Some log) (Some table)) same (ran log table legal t)

-- what the run of a script has, where these bytes are its text
pub closing_of_script : (bytes : List ℕ) (s : Script) (log : Option RunLog) (closed : Option Closed) → ScriptText bytes s → Closing s log closed → ClosingOf bytes log closed
closing_of_script bytes s log closed t c = of_script s log closed t c

-- bytes that are no script's text have no run
pub closing_of_none : (bytes : List ℕ) (log : Option RunLog) (closed : Option Closed) → IsUnrun log closed → ClosingOf bytes log closed
closing_of_none bytes log closed u = by_unrun (ClosingOf bytes) log closed u no_script

-- a text over the limit has no run
pub closing_of_long : (left left' : Option (List ℕ)) (log : Option RunLog) (closed : Option Closed) → IsUnrun log closed → ClosingRead left left' log closed
closing_of_long left left' log closed u = by_unrun (ClosingRead left left') log closed u too_long

-- what a slice of the bytes has, where the whole was read
pub closing_by_slice : (left left' : Option (List ℕ)) (bytes slice : List ℕ) (log : Option RunLog) (closed : Option Closed) → slice ≡ bytes → WasRead LONGEST_SCRIPT left left' bytes → ClosingOf slice log closed → ClosingRead left left' log closed
closing_by_slice left left' bytes slice log closed e read c = of_bytes bytes log closed read (subst (λ (b : List ℕ). ClosingOf b log closed) e c)

-- what a run has, by its form
pub closing_by_run : (left left' : Option (List ℕ)) (form : Form) (schedulers : ℕ) (log : Option RunLog) (closed : Option Closed) → form ≡ forms.Run schedulers → ClosingRead left left' log closed → ClosingBy left left' (Some form) log closed
closing_by_run left left' form schedulers log closed e c = subst (λ (f : Form). ClosingBy left left' (Some f) log closed) (sym e) (by_run schedulers log closed c)

-- what a trial has, by its form
pub closing_by_trial : (left left' : Option (List ℕ)) (form : Form) (seed size schedulers : ℕ) (log : Option RunLog) (closed : Option Closed) → form ≡ forms.Trial seed size schedulers → Closing (seeded_script seed size) log closed → ClosingBy left left' (Some form) log closed
closing_by_trial left left' form seed size schedulers log closed e c = subst (λ (f : Form). ClosingBy left left' (Some f) log closed) (sym e) (by_trial seed size schedulers log closed c)

-- a call that ran nothing
pub closing_of_nothing : (left left' : Option (List ℕ)) (form : Option Form) (log : Option RunLog) (closed : Option Closed) → IsUnrun log closed → ClosingBy left left' form log closed
closing_of_nothing left left' form log closed u = by_unrun (ClosingBy left left' form) log closed u (no_run form)

-- what a form's work has is what the call answers
pub closing_told : (left left' : Option (List ℕ)) (form : Option Form) (found : Form) (log log' : Option RunLog) (closed closed' : Option Closed) → form ≡ Some found → log' ≡ log → closed' ≡ closed → ClosingBy left left' (Some found) log closed → ClosingBy left left' form log' closed'
closing_told left left' form found log log' closed closed' f l c h =
    subst (λ (x : Option Form). ClosingBy left left' x log' closed') (sym f)
    (subst (λ (x : Option RunLog). ClosingBy left left' (Some found) x closed') (sym l)
    (subst (λ (x : Option Closed). ClosingBy left left' (Some found) log x) (sym c) h))

-- ---- the clauses of the top call

both_or_neither : {s : Script} {log : Option RunLog} {closed : Option Closed} → Closing s log closed → (closed ≡ None) ↔ (log ≡ None)
both_or_neither unrun = (λ e. refl, λ e. refl)
both_or_neither (ran log table legal t) = (λ e. absurd cc, λ e. absurd cc)

both_or_neither_read : {left left' : Option (List ℕ)} {log : Option RunLog} {closed : Option Closed} → ClosingRead left left' log closed → (closed ≡ None) ↔ (log ≡ None)
both_or_neither_read too_long = (λ e. refl, λ e. refl)
both_or_neither_read (of_bytes _ _ _ r no_script) = (λ e. refl, λ e. refl)
both_or_neither_read (of_bytes _ _ _ r (of_script _ _ _ t c)) = both_or_neither c

-- a table stands beside a log, and only there
pub closed_of : {left left' : Option (List ℕ)} {form : Option Form} {log : Option RunLog} {closed : Option Closed} → ClosingBy left left' form log closed → (closed ≡ None) ↔ (log ≡ None)
closed_of (no_run _) = (λ e. refl, λ e. refl)
closed_of (by_run _ _ _ c) = both_or_neither_read c
closed_of (by_trial _ _ _ _ _ c) = both_or_neither c

table_read : {left left' : Option (List ℕ)} {log : Option RunLog} {closed : Option Closed} → ClosingRead left left' log closed → log ≢ None → HasTable left left' log closed
table_read too_long logged = absurd (logged refl)
table_read (of_bytes _ _ _ r no_script) logged = absurd (logged refl)
table_read (of_bytes _ _ _ r (of_script _ _ _ t unrun)) logged = absurd (logged refl)
table_read (of_bytes bytes _ _ r (of_script s _ _ t (ran log table legal h))) logged =
    record { bytes = bytes; script = s; log = log; table = table; read = r; text = t; answered_is = refl; legal = legal; closed_is = refl; table_of = h }

table_of_run : {n : ℕ} {left left' : Option (List ℕ)} {log : Option RunLog} {closed : Option Closed} → ClosingBy left left' (Some (forms.Run n)) log closed → log ≢ None → HasTable left left' log closed
table_of_run (no_run _) logged = absurd (logged refl)
table_of_run (by_run _ _ _ c) logged = table_read c logged

-- the table of a run
pub closed_of_run : (n : ℕ) → {left left' : Option (List ℕ)} {form : Option Form} {log : Option RunLog} {closed : Option Closed} → ClosingBy left left' form log closed → form ≡ Some (forms.Run n) → log ≢ None → HasTable left left' log closed
closed_of_run n {left = left} {left' = left'} {log = log} {closed = closed} c f logged = table_of_run (subst (λ (x : Option Form). ClosingBy left left' x log closed) f c) logged

table_made : {seed size : ℕ} {log : Option RunLog} {closed : Option Closed} → Closing (seeded_script seed size) log closed → log ≢ None → HasTableOfMade seed size log closed
table_made unrun logged = absurd (logged refl)
table_made (ran log table legal h) logged = record { log = log; table = table; answered_is = refl; legal = legal; closed_is = refl; table_of = h }

table_of_trial : {seed size n : ℕ} {left left' : Option (List ℕ)} {log : Option RunLog} {closed : Option Closed} → ClosingBy left left' (Some (forms.Trial seed size n)) log closed → log ≢ None → HasTableOfMade seed size log closed
table_of_trial (no_run _) logged = absurd (logged refl)
table_of_trial (by_trial _ _ _ _ _ c) logged = table_made c logged

-- the table of a trial
pub closed_of_made : (seed size n : ℕ) → {left left' : Option (List ℕ)} {form : Option Form} {log : Option RunLog} {closed : Option Closed} → ClosingBy left left' form log closed → form ≡ Some (forms.Trial seed size n) → log ≢ None → HasTableOfMade seed size log closed
closed_of_made seed size n {left = left} {left' = left'} {log = log} {closed = closed} c f logged = table_of_trial (subst (λ (x : Option Form). ClosingBy left left' x log closed) f c) logged
