-- What the parts of an input were read as.
use Rattle.std.proofs.Common.{◌≡◌, ◌⊎◌, inl, inr, ℕ, List, Result, Ok, Err, sym, subst}
use Rattle.std.specs.Prelude.{IfOk}
use Rattle.script_core.specs.declared.script.Script.{Script}
use Rattle.script_core.specs.Sound.{IsScript}
use Rattle.script_text.specs.declared.fault.ScriptFault.{ScriptFault}
use Rattle.script_text.specs.declared.fault.ScriptFault.TheVariants as faults
use Rattle.script_text.specs.ScriptText.{ScriptText, FaultOf}
use Rattle.run_log.specs.declared.logs.RunLog.{RunLog}
use Rattle.run_log.specs.Report.{rendering_of}
use Rattle.run_log.specs.WellFormed.{IsWellFormed}
use Rattle.report_text.specs.declared.fault.ReportFault.{ReportFault}
use Rattle.report_text.specs.declared.fault.ReportFault.TheVariants as report_faults
use Rattle.report_text.specs.ReportText.{FaultOf as ReportFaultOf}
use Rattle.outside.specs.Inputs.{AreRead, HasNoFault, IsNoReport, IsReportRead, IsReportRefused, IsScriptRead, IsScriptRefused}
use Rattle.outside.specs.Parting.{script_part, report_part}

-- what holds of an answer where something else does
pub on_ok : {A E : Type 0} (P Q : A → Type 0) (r : Result A E) → ((a : A) → P a → Q a) → IfOk r P → IfOk r Q
on_ok P Q (Ok a) f h = f a h
on_ok P Q (Err e) f h = tt

-- a fault that is one of syntax is no want of memory
two_faults : (f : ReportFault) (line : ℕ) → f ≡ report_faults.Syntax line → f ≡ report_faults.NoMemory → ⊥
two_faults f line e h = cc

-- the script's part was read
pub script_read : (bytes part : List ℕ) (s : Script) → part ≡ script_part bytes → ScriptText part s → ((other : Script) → ScriptText part other → other ≡ s) → HasNoFault part → IsScriptRead (script_part bytes) s
script_read bytes part s is text only sane = subst (λ (b : List ℕ). IsScriptRead b s) is (record { text = text; only = only; sane = sane })

-- or it has a fault
pub script_refused : (bytes part : List ℕ) (f : ScriptFault) → part ≡ script_part bytes → FaultOf part f ⊎ (f ≡ faults.NoMemory) → ((s : Script) → ScriptText part s → f ≡ faults.NoMemory) → IsScriptRefused bytes f
script_refused bytes part f is fault none = record {
  fault = subst (λ (b : List ℕ). FaultOf b f ⊎ (f ≡ faults.NoMemory)) is fault;
  none = subst (λ (b : List ℕ). (s : Script) → ScriptText b s → f ≡ faults.NoMemory) is none;
}

-- what stands behind it was read
pub report_read : (bytes report : List ℕ) (s : Script) (log : RunLog) → report_part bytes ≡ report → IsScriptRead (script_part bytes) s → IsScript s → IsReportRead s.names report log → AreRead bytes s log
report_read bytes report s log is read sound log_read = record { script = read; sound = sound; report = subst (λ (b : List ℕ). IsReportRead s.names b log) (sym is) log_read }

none_there : (names : List (List ℕ)) (report : List ℕ) (f : ReportFault) (line : ℕ) → f ≡ report_faults.Syntax line → ((l : RunLog) → IsWellFormed names l → rendering_of names l ≡ report → f ≡ report_faults.NoMemory) → IsNoReport names report
none_there names report f line e only log is = two_faults f line e (only log is.formed is.text_is)

-- or it has a fault
pub report_refused : (bytes report : List ℕ) (s : Script) (f : ReportFault) (line : ℕ) → report_part bytes ≡ report → IsScriptRead (script_part bytes) s → f ≡ report_faults.Syntax line → ReportFaultOf s.names report f ⊎ (f ≡ report_faults.NoMemory)
    → ((l : RunLog) → IsWellFormed s.names l → rendering_of s.names l ≡ report → f ≡ report_faults.NoMemory) → IsReportRefused bytes line
report_refused bytes report s f line is read e (inl fault) only = record {
  script = s;
  read = read;
  fault = subst (λ (b : List ℕ). ReportFaultOf s.names b (report_faults.Syntax line)) (sym is) (subst (ReportFaultOf s.names report) e fault);
  none = subst (IsNoReport s.names) (sym is) (none_there s.names report f line e only);
}
report_refused bytes report s f line is read e (inr h) only = absurd (two_faults f line e h)
