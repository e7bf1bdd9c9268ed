-- No turn of a member that is ready is under way.
use Rattle.new_tables.proofs.Leading.{ready_rests}
use Rattle.grace_bench.proofs.reports.report_often.Goals as goal

pub report-requires-clause-rest : goal.report-requires-clause-rest
report-requires-clause-rest c = ready_rests _ c.loop.member c.loop.invariant
