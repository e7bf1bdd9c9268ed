-- The line has the terms of the arguments.
use Rattle.std.proofs.Common.{sym}
use Rattle.server_core.specs.ServerState.{entry_of}
use Rattle.machine_core.specs.Stand.{IsUsable}
use Rattle.machine_core.proofs.Calling.{all_arguments, usable_seen}
use Rattle.machine_core.proofs.Tracing.{call_traced}
use Rattle.machine_core.proofs.calls.trace_call.Goals as goal

pub terms_of-requires-clause-usable : goal.terms_of-requires-clause-usable
terms_of-requires-clause-usable g c =
    usable_seen (g.V.CodeView.shown c.args.view.now) (g.V.CodeView.shown c.decision.new.self) (g.V.CodeView.held c.args.view.now) (g.V.CodeView.held c.decision.new.self) _ c.arguments.result.now
    c.if-decision.ensures.same c.if-decision.ensures.holds c.arguments.ensures
    (all_arguments (IsUsable (g.V.CodeView.shown c.args.view.now) (g.V.CodeView.held c.args.view.now)) c.args.registers.now c.args.callee.now.at c.args.callee.now.to.arity c.requires.usable)

pub returns-in_ok-push-clause-ok : goal.returns-in_ok-push-clause-ok
returns-in_ok-push-clause-ok g c =
    call_traced (g.V.CodeView.shown c.args.view.now) (g.V.CodeView.shown c.decision.new.self) (entry_of c.args.callee.now.code) c.args.callee.now.to c.args.registers.now c.arguments.result.now
    c.args.callee.now.at c.args.callee.now.to.arity c.in_ok-args.args c.args.lines.now c.push.new.self c.if-decision.ensures.same (sym c.if-decision.ensures.value) c.arguments.ensures c.in_ok-args.ensures.ok c.in_ok-push.ensures.ok
