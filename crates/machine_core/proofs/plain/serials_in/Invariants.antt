-- The serials so far are those of the areas so far.
use Rattle.std.proofs.Common.{◌≡◌, take}
use Rattle.machine_core.specs.Holds.{serials_of}
use Rattle.machine_core.specs.Process.{area_serials}
use Rattle.machine_core.proofs.plain.serials_in.Given as goal

abbrev pub invariant-loop-area : goal.invariant-loop-area
invariant-loop-area l = l.serials ≡ serials_of (area_serials (take l.area-index l.areas))
