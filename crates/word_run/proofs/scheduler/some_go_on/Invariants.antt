use Rattle.std.proofs.Common.{◌≡◌, ◌<◌, ℕ, slice_get, Option, Some}
use Rattle.word_lap.specs.declared.process_run.ProcessRun.{ProcessRun}
use Rattle.word_run.specs.Rounds.{RestsAt}
use Rattle.word_run.proofs.scheduler.some_go_on.Given as goal

-- none of the first processes goes on
abbrev pub invariant-loop-place : goal.invariant-loop-place
invariant-loop-place l = (p : ℕ) (place : Option ProcessRun) → p < l.place-index → slice_get l.processes p ≡ Some place → RestsAt place
