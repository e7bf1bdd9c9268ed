-- The value goes to the frame below.
use Rattle.std.proofs.Common.{◌∙◌, ◌++◌, ◌∷◌, [], ap, sym}
use Rattle.machine_core.proofs.Steps.{leaves_to, on_any, values_popped}
use Rattle.machine_core.proofs.step.leave.Goals as goal

pub return_to-requires-clause-usable : goal.return_to-requires-clause-usable
return_to-requires-clause-usable g c = (c.in_ok-value.ensures (g.V.CodeView.shown c.args.view.now) (g.V.CodeView.held c.args.view.now) c.requires.ready c.requires.source).usable

pub return_to-requires-clause-caller : goal.return_to-requires-clause-caller
return_to-requires-clause-caller g c = (values_popped (g.V.CodeView.shown c.args.view.now) c.args.below.now c.pop.new.self c.in-Some.caller c.in-Some.ensures c.requires.below).1

pub returns-in-Some-clause-ok : goal.returns-in-Some-clause-ok
returns-in-Some-clause-ok g c = λ made.
    let shown = g.V.CodeView.shown c.args.view.now in
    let held = g.V.CodeView.held c.args.view.now in
    leaves_to c.return_to.result shown held (g.V.CodeView.held c.return_to.new.view) c.in-Some.caller c.return_to.new.top c.args.below.now c.return_to.new.frames c.args.top.now.back c.in_ok-value.value _ made (c.in-Some.ensures ∙ ap (λ fs. fs ++ c.in-Some.caller ∷ []) (sym c.return_to.ensures.frames))
    (c.in_ok-value.ensures shown held c.requires.ready c.requires.source).shows c.return_to.ensures.ok

pub returns-in-Some-clause-below : goal.returns-in-Some-clause-below
returns-in-Some-clause-below g c = on_any c.return_to.result _ (values_popped (g.V.CodeView.shown c.args.view.now) c.args.below.now c.return_to.new.frames c.in-Some.caller (c.in-Some.ensures ∙ ap (λ fs. fs ++ c.in-Some.caller ∷ []) (sym c.return_to.ensures.frames)) c.requires.below).0
