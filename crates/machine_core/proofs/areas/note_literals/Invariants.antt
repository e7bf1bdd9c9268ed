-- The areas so far are those at first and those of the literals so far, each in its block.
use Rattle.std.proofs.Common.{◌≡◌, ◌++◌, All, take}
use Rattle.machine_core.specs.Holds.{serials_of}
use Rattle.machine_core.specs.Process.{area_serials, value_areas}
use Rattle.machine_core.specs.View.{IsInBlock, IsValue, Shown}
use Rattle.machine_core.proofs.areas.note_literals.Given as goal

abbrev pub invariant-loop-value : goal.invariant-loop-value
invariant-loop-value l = record {
  named : serials_of (area_serials l.areas) ≡ serials_of (area_serials l.initial.areas ++ value_areas (take l.value-index l.values));
  stand : (shown : Shown) → All (IsInBlock shown) l.initial.areas → All (IsValue shown) l.values → All (IsInBlock shown) l.areas;
}
