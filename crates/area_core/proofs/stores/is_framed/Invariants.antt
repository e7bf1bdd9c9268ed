use Rattle.std.proofs.Common.{◌≡◌}
use Rattle.area_core.specs.Stores.{is_framed}
use Rattle.area_core.proofs.stores.is_framed.Given as goal

-- whether one of the anchors so far names the area for a frame
abbrev pub invariant-loop-before : goal.invariant-loop-before
invariant-loop-before l = l.framed ≡ is_framed l.fn.words l.fn.process l.fn.serial l.before
