use Rattle.prgr_core.proofs.Runs.{after_all_more}
use Rattle.prgr_core.proofs.state.replay.Goals as goal

-- the events so far and this one lead to the next state
pub loop-place-preserved : goal.loop-place-preserved
loop-place-preserved c = after_all_more c.args.state.now c.loop-place.state c.step.new.state c.args.events.now c.as_slice-event-items.result.now c.loop-place.place _ c.as_slice-event-items.ensures c.loop-place-test.true c.loop-place.invariant c.in-Ok.ensures.ok
