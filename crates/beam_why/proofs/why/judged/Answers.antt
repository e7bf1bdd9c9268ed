-- The answer to what the bytes were read as.
use Rattle.std.proofs.Common.{subst}
use Rattle.outside.specs.Answers.{report_syntax_text}
use Rattle.outside.specs.Inputs.{IsReadAs}
use Rattle.outside.proofs.ReadParts.{on_ok}
use Rattle.beam_why.specs.Why.{WhyVerdict, judged, report_refused}
use Rattle.beam_why.proofs.Commands.{journal_of_text}
use Rattle.beam_why.proofs.Verdicts.{both_ok, by_line, script_refused_is}
use Rattle.beam_why.proofs.why.judged.Goals as goal

pub log_judged-requires-clause-script : goal.log_judged-requires-clause-script
log_judged-requires-clause-script c = (subst (IsReadAs c.args.bytes.now) c.in-Read.is c.in_ok-input.ensures).sound

pub log_judged-requires-clause-put : goal.log_judged-requires-clause-put
log_judged-requires-clause-put c =
    let read = subst (IsReadAs c.args.bytes.now) c.in-Read.is c.in_ok-input.ensures in
    journal_of_text c.in-Read.script.names read.sound.names.room c.in-Read.log.journal read.report.report.formed.journal

pub returns-in-Read : goal.returns-in-Read
returns-in-Read c =
    let read = subst (IsReadAs c.args.bytes.now) c.in-Read.is c.in_ok-input.ensures in
    on_ok _ _ c.log_judged.result (λ a h. judged c.in-Read.script c.in-Read.log a.status a.text read h) c.log_judged.ensures

pub returns-in-ScriptRefused : goal.returns-in-ScriptRefused
returns-in-ScriptRefused c =
    let refused = subst (IsReadAs c.args.bytes.now) c.in-ScriptRefused.is c.in_ok-input.ensures in
    on_ok _ _ c.refusal.result (λ a h. script_refused_is c.args.bytes.now c.in-ScriptRefused.fault a refused h.0 h.1)
    (both_ok _ _ c.refusal.result c.refusal.ensures.line c.refusal.ensures.known)

pub returns-in-ReportRefused : goal.returns-in-ReportRefused
returns-in-ReportRefused c =
    let refused = subst (IsReadAs c.args.bytes.now) c.in-ReportRefused.is c.in_ok-input.ensures in
    let line = c.in-ReportRefused.line in
    on_ok _ _ c.report_refusal.result (λ a h. by_line (WhyVerdict c.args.bytes.now) 3 (report_syntax_text line) a.status a.log a.text (report_refused line refused) h) c.report_refusal.ensures
