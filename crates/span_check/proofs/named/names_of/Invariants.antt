-- What is noted so far is what the frames so far name.
use Rattle.std.proofs.Common.{take}
use Rattle.span_check.specs.Standings.{AreNames}
use Rattle.span_check.proofs.named.names_of.Given as goal

abbrev pub invariant-loop-frame : goal.invariant-loop-frame
invariant-loop-frame l = AreNames (take l.frame-index l.frames) l.named
