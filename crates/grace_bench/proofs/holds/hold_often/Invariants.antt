-- The process may name the instance once more.
use Rattle.grace_bench.specs.Holding.{IsUser}
use Rattle.grace_bench.proofs.holds.hold_often.Given as goal

abbrev pub invariant-loop-done : goal.invariant-loop-done
invariant-loop-done l = IsUser l.fn.shared.table.shared.table_id l.fn.shared.table.shared.key l.member
