-- The leader has no process.
use Rattle.new_tables.proofs.Heading.{leading_rests}
use Rattle.area_tests.proofs.leading.lead_on.Goals as goal

pub report-requires-clause-rest : goal.report-requires-clause-rest
report-requires-clause-rest c = leading_rests _ c.args.leader.now c.requires.leads
