-- The leader has no process.
use Rattle.permit_tests.proofs.Leading.{leading_rests}
use Rattle.permit_tests.proofs.permits.lead_on.Goals as goal

pub report-requires-clause-rest : goal.report-requires-clause-rest
report-requires-clause-rest g c = leading_rests _ c.args.leader.now c.requires.leads
