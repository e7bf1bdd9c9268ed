use Rattle.word_lap.proofs.Waits.{report_woken}
use Rattle.word_lap.proofs.waiting.end_wait.Goals as goal

pub returns-clause-reported : goal.returns-clause-reported
returns-clause-reported g c = report_woken g.N.Served.served c.args.shared.now.table.shared.table_id c.args.member.now c.wake.new.member c.wake.result c.wake.ensures.reported
