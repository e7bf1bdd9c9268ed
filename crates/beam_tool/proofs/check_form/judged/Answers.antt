-- The answer to what the bytes were read as.
use Rattle.std.proofs.Common.{None, refl, subst}
use Rattle.outside.specs.Answers.{report_syntax_text}
use Rattle.outside.specs.Inputs.{IsReadAs}
use Rattle.outside.specs.Parting.{report_part, script_part}
use Rattle.beam_tool.specs.TopCall.{CheckVerdict, judged, report_refused}
use Rattle.beam_tool.proofs.Verdicts.{both_ok, by_line, on_ok, script_refused_of}
use Rattle.beam_tool.proofs.check_form.judged.Goals as goal

pub log_judged-requires : goal.log_judged-requires
log_judged-requires c = (subst (IsReadAs c.args.bytes.now) c.in-Read.is c.in_ok-input.ensures).sound

pub returns-in-Read : goal.returns-in-Read
returns-in-Read c =
    let read = subst (IsReadAs c.args.bytes.now) c.in-Read.is c.in_ok-input.ensures in
    on_ok _ _ c.log_judged.result (λ a h. judged c.in-Read.script a.status a.log a.text read.script (h (report_part c.args.bytes.now) read.report)) c.log_judged.ensures

pub returns-in-ScriptRefused : goal.returns-in-ScriptRefused
returns-in-ScriptRefused c =
    let refused = subst (IsReadAs c.args.bytes.now) c.in-ScriptRefused.is c.in_ok-input.ensures in
    on_ok _ _ c.refusal.result (λ a h. script_refused_of c.args.bytes.now (script_part c.args.bytes.now) c.in-ScriptRefused.fault a.status a.log a.text refl refused.fault refused.none h.0 h.1)
    (both_ok _ _ c.refusal.result c.refusal.ensures.line c.refusal.ensures.known)

pub returns-in-ReportRefused : goal.returns-in-ReportRefused
returns-in-ReportRefused c =
    let refused = subst (IsReadAs c.args.bytes.now) c.in-ReportRefused.is c.in_ok-input.ensures in
    let line = c.in-ReportRefused.line in
    on_ok _ _ c.report_refusal.result
    (λ a h. by_line (CheckVerdict c.args.bytes.now) 3 (report_syntax_text line) a.status a.log a.text (judged refused.script 3 None (report_syntax_text line) refused.read (report_refused line refused.fault refused.none)) h) c.report_refusal.ensures
