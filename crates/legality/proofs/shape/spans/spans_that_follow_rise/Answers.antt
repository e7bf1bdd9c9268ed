use Rattle.legality.proofs.RisingNumbers.{following_rises}
use Rattle.legality.proofs.shape.spans.spans_that_follow_rise.Goals as goal

-- by the spans
pub returns : goal.returns
returns c = following_rises
