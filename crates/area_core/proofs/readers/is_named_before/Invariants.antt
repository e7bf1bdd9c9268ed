use Rattle.std.proofs.Common.{◌≡◌}
use Rattle.area_core.specs.Readers.{is_named_before}
use Rattle.area_core.proofs.readers.is_named_before.Given as goal

-- whether one of the anchors so far names the area
abbrev pub invariant-loop-anchor : goal.invariant-loop-anchor
invariant-loop-anchor l = l.named ≡ is_named_before l.fn.slots l.fn.words l.fn.serial l.anchor
