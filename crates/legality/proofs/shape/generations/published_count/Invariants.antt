use Rattle.std.proofs.Common.{◌≡◌, ◌≤◌, take}
use Rattle.run_log.specs.Journal.{published_count}
use Rattle.legality.proofs.shape.generations.published_count.Given as goal

-- the count of the entries so far, which is at most their number
abbrev pub invariant-loop-entry : goal.invariant-loop-entry
invariant-loop-entry l = (l.count ≡ published_count (take l.entry-index l.entry-items)) × (l.count ≤ l.entry-index)
