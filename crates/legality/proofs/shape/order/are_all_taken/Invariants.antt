use Rattle.std.proofs.Common.{ℕ, ◌<◌, ◌≤◌, length}
use Rattle.script_core.specs.Processes.{commands_at}
use Rattle.legality.specs.Places.{loader_place}
use Rattle.legality.proofs.shape.order.are_all_taken.Given as goal

-- the commands of the loaders so far were taken
abbrev pub invariant-loop-loader : goal.invariant-loop-loader
invariant-loop-loader l = (k : ℕ) → k < l.loader → length (commands_at l.loaders k) ≤ loader_place l.places k
