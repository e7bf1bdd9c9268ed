-- The areas so far are those of the frames so far, those of literals each in its block.
use Rattle.std.proofs.Common.{◌≡◌, All, take}
use Rattle.machine_core.specs.Process.{area_holds, code_names}
use Rattle.machine_core.specs.View.{AreValues, IsInBlock, Shown}
use Rattle.machine_core.proofs.areas.areas_of.Given as goal

abbrev pub invariant-loop-frame : goal.invariant-loop-frame
invariant-loop-frame l = record {
  names : area_holds l.areas ≡ code_names (take l.frame-index l.frames);
  stand : (shown : Shown) → AreValues shown l.frames → All (IsInBlock shown) l.areas.literals;
}
