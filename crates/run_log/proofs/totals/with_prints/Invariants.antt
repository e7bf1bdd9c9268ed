-- the prints of the spans so far are added
use Rattle.std.proofs.Common.{◌≡◌, ◌+◌, take}
use Rattle.run_log.specs.Summary.{prints_of}
use Rattle.run_log.proofs.totals.with_prints.Given as goal

abbrev pub invariant-loop-span : goal.invariant-loop-span
invariant-loop-span l = l.sum ≡ l.fn.count + prints_of (take l.span-index l.spans)
