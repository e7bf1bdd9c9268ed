-- The areas are those before and those of the modules that were taken, and the block is the same.
use Rattle.std.proofs.Common.{◌≡◌, ◌+◌, ◌++◌, length, map}
use Rattle.std.specs.Prelude.{vec_capacity, vec_len}
use Rattle.server_core.specs.declared.areas.Area.TheVariants.{Loaded}
use Rattle.server_core.proofs.areas.push_all.Given as goal

abbrev pub invariant-loop-instance : goal.invariant-loop-instance
invariant-loop-instance l = record {
  items : l.areas.items ≡ l.initial.areas.items ++ map Loaded l.yielded;
  len : vec_len l.areas ≡ vec_len l.initial.areas + length l.yielded;
  capacity : vec_capacity l.areas ≡ vec_capacity l.initial.areas;
}
