use Rattle.std.proofs.Common.{◌≡◌, ℕ, ◌<◌, List, length, slice_get, Some}
use Rattle.run_log.specs.declared.logs.Snapshot.{Snapshot}
use Rattle.legality.proofs.shape.snapshots.have_counts.Given as goal

-- the observers so far have their counts
abbrev pub invariant-loop-observer : goal.invariant-loop-observer
invariant-loop-observer l = (k count : ℕ) (shots : List Snapshot) → k < l.observer → slice_get l.counts k ≡ Some count → slice_get l.observers k ≡ Some shots → length shots ≡ count
