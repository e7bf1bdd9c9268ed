-- The parts of the frames are the same.
use Rattle.span_check.proofs.Equal.{frame_same}
use Rattle.span_check.proofs.frames.is_same.Goals as goal

pub returns-then-stands_same : goal.returns-then-stands_same
returns-then-stands_same c =
    frame_same c.args.frame.now c.args.other.now c.as_slice.result.now c.as_slice-then-stands_same.result.now c.eq.result (c.stands_same.ensures.code c.if-stands_same.true) (c.stands_same.ensures.place c.if-stands_same.true)
    (c.stands_same.ensures.back c.if-stands_same.true) c.as_slice.ensures c.as_slice-then-stands_same.ensures c.eq.ensures
