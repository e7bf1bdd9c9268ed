-- Each look takes one of the snapshots that are lacking.
use Rattle.observers.proofs.Seeing.{looked_all, looked_more, not_looked}
use Rattle.observers.proofs.observer.Observer.look_on.Goals as goal

pub loop-shot-init : goal.loop-shot-init
loop-shot-init g c = (c.requires.observes, not_looked c.args.self.now)

pub look-requires-clause-observes : goal.look-requires-clause-observes
look-requires-clause-observes g c = c.loop-shot.invariant.0

pub loop-shot-preserved : goal.loop-shot-preserved
loop-shot-preserved g c = (c.in_ok-look.ensures.observes, looked_more g.K.Naming.names c.args.self.now c.loop-shot.self c.look.new.self c.loop-shot._shot c.loop-shot-test.true c.loop-shot.invariant.1 c.in_ok-look.ensures.looked)

pub returns-clause-counted : goal.returns-clause-counted
returns-clause-counted g c = (looked_all c.args.self.now c.loop-shot.self c.loop-shot._shot c.loop-shot-test.false c.loop-shot.invariant.1).0

pub returns-clause-over : goal.returns-clause-over
returns-clause-over g c = (looked_all c.args.self.now c.loop-shot.self c.loop-shot._shot c.loop-shot-test.false c.loop-shot.invariant.1).1
