-- the prints of the processes so far are counted
use Rattle.std.proofs.Common.{◌≡◌, take}
use Rattle.run_log.specs.Summary.{print_count}
use Rattle.run_log.proofs.totals.print_count.Given as goal

abbrev pub invariant-loop-log : goal.invariant-loop-log
invariant-loop-log l = l.count ≡ print_count (take l.log-index l.processes)
