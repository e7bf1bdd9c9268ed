-- A process that has had no turn may have one.
use Rattle.span_check.proofs.Readiness.{ready_new}
use Rattle.machine_core.specs.View.{server_words}
use Rattle.span_check.proofs.standing.Standing.new.Goals as goal

pub returns-clause-ready : goal.returns-clause-ready
returns-clause-ready c = λ s going. ready_new s c.in_ok-process.process c.args.number c.args.log.now.target c.in_ok-args.args (c.in_ok-process.ensures (server_words s))
