use Rattle.std.proofs.Common.{◌≡◌}
use Rattle.area_core.specs.Roots.{image_stands}
use Rattle.area_core.proofs.roots.areas.image_stands.Given as goal

-- whether the words so far are the image's
abbrev pub invariant-loop-at : goal.invariant-loop-at
invariant-loop-at l = l.stands ≡ image_stands l.fn.words l.fn.area l.at
