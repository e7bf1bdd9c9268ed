-- The arguments as values are the arguments.
use Rattle.std.proofs.Common.{◌∙◌, sym}
use Rattle.server_core.specs.ServerState.{entry_of}
use Rattle.machine_core.proofs.Tracing.{target_traced}
use Rattle.machine_core.proofs.calls.trace_target.Goals as goal

pub returns-in_ok-push-clause-ok : goal.returns-in_ok-push-clause-ok
returns-in_ok-push-clause-ok g c =
    target_traced (g.V.CodeView.shown c.args.view.now).reads (entry_of c.args.code) c.args.target c.args.args.now c.in_ok-args.args c.args.lines.now c.push.new.self
    (sym c.decision.ensures.value ∙ c.if-decision.true) c.in_ok-args.ensures (c.in_ok-push.ensures.ok)
