use Rattle.std.proofs.Common.{◌≡◌, drop}
use Rattle.area_core.specs.Roots.{serial_image}
use Rattle.area_core.proofs.roots.fresh.image_of.Given as goal

-- no area so far has the serial
abbrev pub invariant-loop-area : goal.invariant-loop-area
invariant-loop-area l = serial_image l.fn.areas l.fn.serial ≡ serial_image (drop l.area-index l.fn.areas) l.fn.serial
