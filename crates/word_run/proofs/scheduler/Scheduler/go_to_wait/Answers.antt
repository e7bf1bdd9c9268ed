use Rattle.std.proofs.Common.{sym, ◌∙◌}
use Rattle.word_run.proofs.SliceTurns.{turns_waiting}
use Rattle.word_run.proofs.Waiting.{goes_waiting}
use Rattle.word_run.proofs.scheduler.Scheduler.go_to_wait.Goals as goal

-- its processes stay
pub returns-clause-kept : goal.returns-clause-kept
returns-clause-kept g c =
    goes_waiting g.K.Naming.names _ _ c.args.self.now c.in-Some.member c.begin_wait.new.member (sym c.take.ensures.value ∙ c.in-Some.is) c.requires.awake c.begin_wait.ensures.number c.begin_wait.ensures.waits c.requires.kept

-- and none had a turn
pub returns-clause-turns : goal.returns-clause-turns
returns-clause-turns g c =
    turns_waiting g.K.Naming.names _ _ c.args.self.now c.in-Some.member c.begin_wait.new.member (sym c.take.ensures.value ∙ c.in-Some.is) c.requires.awake c.begin_wait.ensures.number c.begin_wait.ensures.waits c.requires.kept
