use Rattle.std.proofs.Common.{◌≡◌, take}
use Rattle.std.specs.List.{flat_map}
use Rattle.area_core.specs.Roots.{fresh_in}
use Rattle.area_core.proofs.roots.fresh.fresh_areas.Given as goal

-- the fresh areas of those so far
abbrev pub invariant-loop-area : goal.invariant-loop-area
invariant-loop-area l = l.fresh ≡ flat_map (fresh_in l.fn.kept l.fn.published.state.areas) (take l.area-index l.area-items)
