-- So far the row has the first instructions of the function, and each instruction ends further behind.
use Rattle.std.proofs.Common.{◌-◌, length}
use Rattle.mod_core.specs.declared.code.Function.{Function}
use Rattle.mod_core.specs.declared.code.Module.{Module}
use Rattle.mod_core.specs.Decoding.{IsFunctionIn, IsLeft, IsRow}
use Rattle.mod_core.proofs.code_reading.read_row.Given as goal

abbrev pub invariant-loop-alloc : goal.invariant-loop-alloc
invariant-loop-alloc l = (m : Module) (f : Function) → IsFunctionIn l.words m l.number f → IsLeft m l.number l.left → IsRow m l.number f l.row

abbrev pub decreases-loop-alloc : goal.decreases-loop-alloc
decreases-loop-alloc l = length l.words - l.row.place
