-- The member is ready to report once more.
use Rattle.new_tables.specs.Running.{HasReported}
use Rattle.progress_tests.proofs.published.grace.report_often.Given as goal

abbrev pub invariant-loop : goal.invariant-loop
invariant-loop l = HasReported l.fn.shared.table.shared.table_id l.initial.member l.member
