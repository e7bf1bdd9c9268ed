use Rattle.std.proofs.Common.{sym, ◌∙◌}
use Rattle.word_run.proofs.Laps.{arrives, inbox_there}
use Rattle.word_run.proofs.SliceTurns.{arrives_none}
use Rattle.word_run.proofs.scheduler.Scheduler.arrive.Goals as goal

-- what came stands at its places
pub returns-clause-kept : goal.returns-clause-kept
returns-clause-kept g c =
    let came = c.take_in-self.ensures in
    let caught = c.catch_up-self.ensures in
    arrives g.K.Naming.names _ _ c.args.self.now c.in-Some.member (sym c.take.ensures.value ∙ c.in-Some.is) c.requires.awake c.take_in-self.new.member c.catch_up-self.new.member c.catch_up-self.result c.take_in-self.new.taker c.as_mut_slice.result.now c.take_in-self.new.processes
    c.other_calls_keep_processes.ensures.reports (came.inbox ∙ inbox_there c.args.inboxes.now c.args.self.now.number c.index-inboxes-self.result c.requires.inboxes c.requires.number c.index-inboxes-self.is)
    c.as_mut_slice.ensures.value (came.all ∙ sym c.requires.kept.by.kept.all)
    came.token came.number came.kept caught.token caught.number caught.between caught.reported _ c.requires.kept

-- and none had a turn
pub returns-clause-arrived : goal.returns-clause-arrived
returns-clause-arrived g c =
    let came = c.take_in-self.ensures in
    arrives_none g.K.Naming.names c.args.self.now c.in-Some.member (sym c.take.ensures.value ∙ c.in-Some.is) c.take_in-self.new.member c.catch_up-self.new.member c.catch_up-self.result c.take_in-self.new.taker c.as_mut_slice.result.now c.take_in-self.new.processes _
    c.as_mut_slice.ensures.value (came.all ∙ sym c.requires.kept.by.kept.all) came.came c.catch_up-self.ensures.reported
