use Rattle.std.proofs.Common.{◌≡◌, ◌++◌, take}
use Rattle.run_log.specs.Report.{processes_text}
use Rattle.run_log.proofs.rendering.process.write_processes.Given as goal

-- the logs so far are written
abbrev pub invariant-loop-number : goal.invariant-loop-number
invariant-loop-number l = l.out ≡ l.fn.out ++ processes_text l.names 0 (take l.number l.log-items)
