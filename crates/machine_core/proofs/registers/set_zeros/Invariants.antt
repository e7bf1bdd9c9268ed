-- The values so far are 0, and those that are left as they were.
use Rattle.std.proofs.Common.{◌≡◌, ◌++◌, map, take, drop}
use Rattle.machine_core.specs.Process.{no_held}
use Rattle.machine_core.proofs.registers.set_zeros.Given as goal

abbrev pub invariant-loop-value : goal.invariant-loop-value
invariant-loop-value l = l.values ≡ map (λ _. no_held) (take l.value-index l.initial.values) ++ drop l.value-index l.initial.values
