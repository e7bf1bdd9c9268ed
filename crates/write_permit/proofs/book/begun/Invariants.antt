-- So many loaders have begun.
use Rattle.std.proofs.Common.{◌≡◌, ℕ, Some, length, slice_get}
use Rattle.script_core.specs.Processes.{first_number}
use Rattle.write_permit.specs.declared.loader_run.LoaderRun.{LoaderRun}
use Rattle.write_permit.proofs.book.begun.Given as goal

abbrev pub invariant-loop-loader : goal.invariant-loop-loader
invariant-loop-loader l = record {
  many : length l.loaders.items ≡ l.loader;
  each : (k : ℕ) (m : LoaderRun) → slice_get l.loaders.items k ≡ Some m → (m.done ≡ 0) × (m.next_process ≡ first_number l.script.loaders k);
}
