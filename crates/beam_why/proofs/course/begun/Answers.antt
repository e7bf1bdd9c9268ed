-- A process that is made may have its first turn.
use Rattle.beam_why.proofs.GoingOn.{goes_new}
use Rattle.beam_why.proofs.course.begun.Goals as goal

pub returns : goal.returns
returns c = goes_new _ _ _ _ c.new.ensures
