-- A process that goes on may have another turn.
use Rattle.span_check.proofs.Readiness.{ready_again}
use Rattle.span_check.proofs.steps.take_turn.Goals as goal

pub returns-clause-ready : goal.returns-clause-ready
returns-clause-ready c =
    ready_again c.turn.result c.args.server.now c.in_ok-view.view c.args.process.now c.turn.new.process c.turn.new.view c.args.made.now c.turn.new.lines
    c.requires.ready c.in_ok-view.ensures.state c.turn.ensures.ok c.turn.ensures.again
