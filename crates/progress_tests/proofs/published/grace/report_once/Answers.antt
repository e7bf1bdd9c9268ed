-- No turn of a member that is ready is under way.
use Rattle.new_tables.proofs.Leading.{ready_rests}
use Rattle.progress_tests.proofs.published.grace.report_once.Goals as goal

pub report-generation-requires-clause-rest : goal.report-generation-requires-clause-rest
report-generation-requires-clause-rest c = ready_rests _ c.args.member.now c.requires.ready
