-- None of the modules behind is that of the name.
use Rattle.std.proofs.Common.{◌-◌, length}
use Rattle.staging.proofs.Reached.{NoneFrom}
use Rattle.staging.proofs.exporting.reached_after.Given as goal

abbrev pub invariant-loop-back : goal.invariant-loop-back
invariant-loop-back l = NoneFrom l.modules.items l.fn.taken l.fn.to (length l.modules.items - l.back)
