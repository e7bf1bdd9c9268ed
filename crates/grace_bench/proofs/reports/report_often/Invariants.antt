-- The member is ready to report once more.
use Rattle.new_tables.specs.Running.{IsReady}
use Rattle.grace_bench.proofs.reports.report_often.Given as goal

abbrev pub invariant-loop : goal.invariant-loop
invariant-loop l = IsReady l.fn.shared.table.shared.table_id l.member
