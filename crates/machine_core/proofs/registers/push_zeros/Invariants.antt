-- As many zeros have been appended as the loop has come far, and there is room for the others.
use Rattle.std.proofs.Common.{◌≡◌, ◌+◌, ◌++◌, ◌≤◌, replicate}
use Rattle.std.specs.Vec.{vec_capacity, vec_len}
use Rattle.machine_core.specs.Process.{no_held}
use Rattle.machine_core.proofs.registers.push_zeros.Given as goal

abbrev pub invariant-loop : goal.invariant-loop
invariant-loop l = record {
  within : l.counter ≤ l.count;
  room : vec_len l.values + l.count ≤ vec_capacity l.values + l.counter;
  items : l.values.items ≡ l.initial.values.items ++ replicate l.counter no_held;
}
