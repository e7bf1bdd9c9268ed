use Rattle.std.proofs.Common.{◌≡◌, take}
use Rattle.term_core.proofs.generation.copied_areas.Given as goal

-- the copies so far are of the areas so far
abbrev pub invariant-loop-area : goal.invariant-loop-area
invariant-loop-area l = l.copies ≡ take l.area-index l.fn.areas
