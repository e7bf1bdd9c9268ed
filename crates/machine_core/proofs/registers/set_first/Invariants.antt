-- The values so far have been given.
use Rattle.std.proofs.Common.{◌≡◌, take}
use Rattle.machine_core.specs.Process.{entered_values}
use Rattle.machine_core.proofs.registers.set_first.Given as goal

abbrev pub invariant-loop-at : goal.invariant-loop-at
invariant-loop-at l = l.registers ≡ entered_values (take l.at l.values)
