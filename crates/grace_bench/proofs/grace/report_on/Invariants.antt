-- The member is ready to report once more.
use Rattle.new_tables.specs.Running.{IsReady}
use Rattle.grace_bench.proofs.grace.report_on.Given as goal

abbrev pub invariant-loop : goal.invariant-loop
invariant-loop g l = IsReady l.fn.shared.table.shared.table_id l.member
