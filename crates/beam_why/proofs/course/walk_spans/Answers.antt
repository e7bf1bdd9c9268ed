-- The process goes on from span to span, while the journal is made again.
use Rattle.beam_why.proofs.GoingOn.{goes_later}
use Rattle.beam_why.proofs.course.walk_spans.Goals as goal

pub loop-place-init : goal.loop-place-init
loop-place-init c = c.requires.goes _

pub take_span-requires : goal.take_span-requires
take_span-requires c = goes_later _ _ _ c.in_ok-make_generation.ensures c.loop-place.invariant

pub loop-place-preserved : goal.loop-place-preserved
loop-place-preserved c = c.in_ok-stop.ensures c.in_default.is
