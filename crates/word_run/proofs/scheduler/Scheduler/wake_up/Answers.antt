use Rattle.std.proofs.Common.{sym, ◌∙◌}
use Rattle.word_run.proofs.SliceTurns.{turns_awake, turns_same}
use Rattle.word_run.proofs.Waiting.{goes_awake}
use Rattle.word_run.proofs.scheduler.Scheduler.wake_up.Goals as goal

-- its processes stay
pub returns-in-Some-clause-kept : goal.returns-in-Some-clause-kept
returns-in-Some-clause-kept g c =
    let woken = c.end_wait-self.ensures in
    goes_awake g.K.Naming.names _ _ c.args.self.now c.in-Some.member c.end_wait-self.new.member c.end_wait-self.result c.other_calls_keep_processes.ensures.reports (sym c.take.ensures.value ∙ c.in-Some.is) c.if-self.true
    woken.token woken.number woken.between woken.reported c.requires.kept

-- and none had a turn
pub returns-in-Some-clause-turns : goal.returns-in-Some-clause-turns
returns-in-Some-clause-turns g c =
    let woken = c.end_wait-self.ensures in
    turns_awake g.K.Naming.names _ _ c.args.self.now c.in-Some.member c.end_wait-self.new.member c.end_wait-self.result c.other_calls_keep_processes.ensures.reports (sym c.take.ensures.value ∙ c.in-Some.is) c.if-self.true
    woken.token woken.number woken.between woken.reported c.requires.kept

pub returns-else-self-clause-turns : goal.returns-else-self-clause-turns
returns-else-self-clause-turns g c = turns_same g.K.Naming.names _ _ c.args.self.now c.requires.kept
