use Rattle.std.proofs.Common.{◌≡◌}
use Rattle.area_core.specs.Stores.{stands_elsewhere}
use Rattle.area_core.proofs.stores.stands_elsewhere.Given as goal

-- whether another of the anchors so far has the serial
abbrev pub invariant-loop-before : goal.invariant-loop-before
invariant-loop-before l = l.stands ≡ stands_elsewhere l.fn.words l.fn.process l.fn.place l.fn.serial l.before
