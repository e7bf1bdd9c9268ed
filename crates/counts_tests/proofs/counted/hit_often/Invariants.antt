use Rattle.std.proofs.Common.{◌≡◌, ◌+◌, length}
use Rattle.counts_tests.proofs.counted.hit_often.Given as goal

-- the counter is of the same table, and hit once a round
abbrev pub invariant-loop-number : goal.invariant-loop-number
invariant-loop-number l = (l.counter.table ≡ l.initial.counter.table) × (length l.counter.hits ≡ length l.initial.counter.hits + l._number)
