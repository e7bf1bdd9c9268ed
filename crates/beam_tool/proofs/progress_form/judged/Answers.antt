-- The answer to the bytes, from what their reading came to.
use Rattle.beam_tool.specs.TopCall.{ListVerdict, fault}
use Rattle.beam_tool.proofs.Verdicts.{on_ok, by_line, replay_of}
use Rattle.beam_tool.proofs.ListFaults.{list_fault}
use Rattle.beam_tool.proofs.progress_form.judged.Goals as goal

pub returns-in-Ok : goal.returns-in-Ok
returns-in-Ok c = on_ok _ _ c.replayed.result (λ a h. replay_of c.args.bytes.now c.in-Ok.events a.status a.log a.text c.in-Ok.ensures.found h) c.replayed.ensures

pub returns-in-Err-Syntax : goal.returns-in-Err-Syntax
returns-in-Err-Syntax c =
    let first_fault = rw c.in-Err-Syntax.field-0-is at c.in-Err-Syntax.ensures.fault in
    on_ok _ _ c.refusal.result (λ a h. by_line (ListVerdict c.args.bytes.now) _ _ a.status a.log a.text (fault c.in-Err-Syntax.line (list_fault c.args.bytes.now c.in-Err-Syntax.line first_fault)) h) c.refusal.ensures.line
