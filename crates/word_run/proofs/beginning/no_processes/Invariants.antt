use Rattle.std.proofs.Common.{◌≡◌, ℕ, length, slice_get, Option, None, Some}
use Rattle.word_lap.specs.declared.process_run.ProcessRun.{ProcessRun}
use Rattle.word_run.proofs.beginning.no_processes.Given as goal

-- so many places are there, all free
abbrev pub invariant-loop : goal.invariant-loop
invariant-loop l = record {
  many : length l.processes.items ≡ l.counter;
  free : (p : ℕ) (place : Option ProcessRun) → slice_get l.processes.items p ≡ Some place → place ≡ None;
}
