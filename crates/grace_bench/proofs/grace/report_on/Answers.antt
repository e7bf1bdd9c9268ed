-- No turn of a member that is ready is under way.
use Rattle.new_tables.proofs.Leading.{ready_rests}
use Rattle.grace_bench.proofs.grace.report_on.Goals as goal

pub report-requires-clause-rest : goal.report-requires-clause-rest
report-requires-clause-rest g c = ready_rests _ c.loop.member c.loop.invariant
