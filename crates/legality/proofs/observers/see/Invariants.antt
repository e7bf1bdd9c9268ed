use Rattle.std.proofs.Common.{◌≡◌}
use Rattle.legality.proofs.Seeing.{HasSeen}
use Rattle.legality.proofs.observers.see.Given as goal

abbrev pub invariant-loop-place : goal.invariant-loop-place
invariant-loop-place l = (l.seen ≡ l.place) × HasSeen l.script.names l.server l.shots l.fn.seen l.place
