-- The frames so far are copied.
use Rattle.std.proofs.Common.{◌≡◌, take}
use Rattle.span_check.proofs.frames.copy.Given as goal

abbrev pub invariant-loop-frame : goal.invariant-loop-frame
invariant-loop-frame l = l.copies ≡ take l.frame-index l.frames
