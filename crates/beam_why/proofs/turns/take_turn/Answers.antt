-- A process that goes on may have another turn.
use Rattle.beam_why.proofs.GoingOn.{goes_again}
use Rattle.beam_why.proofs.turns.take_turn.Goals as goal

pub returns : goal.returns
returns c =
    goes_again c.turn.result c.args.server.now c.in_ok-view.view c.args.process.now c.turn.new.process c.turn.new.view c.args.made.now c.turn.new.lines
    c.requires c.in_ok-view.ensures.state c.turn.ensures.ok c.turn.ensures.again
