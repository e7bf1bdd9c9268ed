-- One decision more is cleared.
use Rattle.breakpoints.proofs.Clears.{clears_more}
use Rattle.breakpoints.proofs.clearing.clear_index.Goals as goal

pub loop-function-preserved : goal.loop-function-preserved
loop-function-preserved g c =
    let done = c.loop-function.invariant in
    clears_more _ _ c.args.bp c.args.block c.loop-function.function c.args.writer.now c.loop-function.writer c.clear_decision.new.writer done c.requires.bp c.requires.block c.loop-function-test.true
    c.clear_decision.ensures.token c.clear_decision.ensures.same c.clear_decision.ensures.stored
