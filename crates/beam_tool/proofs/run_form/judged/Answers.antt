-- A script's report is the answer to its bytes, and so is the fault of those of no script, which has no run.
use Rattle.beam_tool.specs.TopCall.{ScriptVerdict}
use Rattle.beam_tool.proofs.Closings.{closing_of_none, closing_of_script}
use Rattle.beam_tool.proofs.Verdicts.{by_work, on_ok, refusal_of, report_of, unrun_of}
use Rattle.beam_tool.proofs.run_form.judged.Goals as goal

pub returns-in-Ok-clause-verdict : goal.returns-in-Ok-clause-verdict
returns-in-Ok-clause-verdict g c = on_ok _ _ c.reported.result (λ w h. report_of c.args.bytes.now c.in-Ok.script w.answer.status w.answer.log w.answer.text c.in-Ok.ensures.found c.in-Ok.ensures.refused h) c.reported.ensures.verdict

pub returns-in-Ok-clause-closed : goal.returns-in-Ok-clause-closed
returns-in-Ok-clause-closed g c = on_ok _ _ c.reported.result (λ w h. closing_of_script c.args.bytes.now c.in-Ok.script w.answer.log w.closed c.in-Ok.ensures.found h) c.reported.ensures.closed

pub returns-in_ok-refusal-in-Err-clause-verdict : goal.returns-in_ok-refusal-in-Err-clause-verdict
returns-in_ok-refusal-in-Err-clause-verdict g c =
    by_work (ScriptVerdict c.args.bytes.now) _ _ c.unrun.ensures.answer
    (refusal_of c.args.bytes.now c.in-Err.fault _ _ _ c.in-Err.ensures.fault c.in-Err.ensures.only c.in_ok-refusal-in-Err.ensures.line c.in_ok-refusal-in-Err.ensures.known)

pub returns-in_ok-refusal-in-Err-clause-closed : goal.returns-in_ok-refusal-in-Err-clause-closed
returns-in_ok-refusal-in-Err-clause-closed g c = closing_of_none c.args.bytes.now _ _ (unrun_of _ _ _ c.unrun.ensures.answer c.unrun.ensures.closed c.in_ok-refusal-in-Err.ensures.line.log_is)
