-- The frames so far are the same.
use Rattle.std.proofs.Common.{◌≡◌, take}
use Rattle.span_check.proofs.frames.are_same.Given as goal

abbrev pub invariant-loop-at : goal.invariant-loop-at
invariant-loop-at l = take l.at l.frames ≡ take l.at l.others
