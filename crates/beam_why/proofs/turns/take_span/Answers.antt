-- The process goes on from turn to turn.
use Rattle.beam_why.proofs.turns.take_span.Goals as goal

pub loop-preserved : goal.loop-preserved
loop-preserved c = c.in_ok-stop.ensures c.in_default.is

pub returns : goal.returns
returns c = λ _. c.loop.invariant
