-- The answer to an event list, from what its replay came to.
use Rattle.beam_tool.proofs.Verdicts.{on_ok, replay_made, replay_stopped}
use Rattle.beam_tool.proofs.progress_form.replayed.Goals as goal

pub returns-in-Ok-replay : goal.returns-in-Ok-replay
returns-in-Ok-replay c = on_ok _ _ c.done.result (λ a h. replay_made c.args.events.now _ _ _ a.status a.log a.text c.in-Ok.ensures.ok c.len.ensures c.in-Ok-replay.ensures.ok h) c.done.ensures

pub returns-in-Err-NotEnabled : goal.returns-in-Err-NotEnabled
returns-in-Err-NotEnabled c =
    let stops = rw c.in-Err-NotEnabled.field-0-is at c.in-Err-NotEnabled.ensures.fault in
    on_ok _ _ c.not_enabled.result (λ a h. replay_stopped c.args.events.now _ _ _ a.status a.log a.text c.in-Ok.ensures.ok stops h) c.not_enabled.ensures
