-- The areas stay from step to step.
use Rattle.std.proofs.Common.{refl}
use Rattle.beam_why.proofs.Replays.{areas_more, areas_same}
use Rattle.beam_why.proofs.replay.Replay.make_generation.Goals as goal

pub loop-init : goal.loop-init
loop-init c = areas_same _ _ refl

pub loop-preserved : goal.loop-preserved
loop-preserved c = areas_more _ _ _ c.loop.invariant c.in_ok-step.ensures
