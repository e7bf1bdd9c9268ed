-- The answer to a log is the line of its judgement.
use Rattle.beam_tool.specs.TopCall.{ReportVerdict, lawful, not_lawful, lawful_text, not_lawful_text}
use Rattle.beam_tool.proofs.Verdicts.{on_ok, by_line, true_not_false}
use Rattle.beam_tool.proofs.check_form.log_judged.Goals as goal

pub returns-then-branch : goal.returns-then-branch
returns-then-branch c =
    on_ok _ _ c.line_answer.result
    (λ a h report read. by_line (ReportVerdict c.args.script.now report) 0 lawful_text a.status a.log a.text (lawful c.args.log.now read (c.in_ok-legal.ensures.0 c.if-branch.true)) h)
    c.line_answer.ensures

pub returns-else-branch : goal.returns-else-branch
returns-else-branch c =
    on_ok _ _ c.line_answer-else-branch.result
    (λ a h report read. by_line (ReportVerdict c.args.script.now report) 1 not_lawful_text a.status a.log a.text (not_lawful c.args.log.now read (λ legal. true_not_false c.in_ok-legal.field-0 (c.in_ok-legal.ensures.1 legal) c.if-branch.false)) h)
    c.line_answer-else-branch.ensures
