use Rattle.word_run.proofs.Answering.{one_goes}
use Rattle.word_run.proofs.scheduler.some_go_on.Goals as goal

-- this one does
pub returns-then-goes_on-clause-some : goal.returns-then-goes_on-clause-some
returns-then-goes_on-clause-some c = λ yes. one_goes c.args.processes.now c.loop-place.place-index c.place-item.result c.place-item.is c.loop-place-test.true (c.goes_on.ensures.goes c.if-goes_on.true)
