use Rattle.std.proofs.Common.{◌≡◌, ◌++◌, take}
use Rattle.run_log.specs.Report.{observers_text}
use Rattle.run_log.proofs.rendering.observer.write_observers.Given as goal

-- the observers so far are written
abbrev pub invariant-loop-number : goal.invariant-loop-number
invariant-loop-number l = l.out ≡ l.fn.out ++ observers_text l.names 0 (take l.number l.shots-items)
