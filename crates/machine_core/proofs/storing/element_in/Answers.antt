-- The element is that of the two sources.
use Rattle.std.proofs.Common.{subst, sym}
use Rattle.machine_core.specs.Holds.{Holds}
use Rattle.machine_core.specs.Stand.{IsUsable}
use Rattle.machine_core.specs.View.{Shown}
use Rattle.machine_core.proofs.StoredValues.{element_read}
use Rattle.machine_core.proofs.storing.element_in.Goals as goal

pub element-requires-clause-usable : goal.element-requires-clause-usable
element-requires-clause-usable g c =
    let shown = g.V.CodeView.shown c.args.view.now in
    let held = g.V.CodeView.held c.args.view.now in
    subst (λ (v : Shown). IsUsable v (g.V.CodeView.held c.term_in.new.view) c.in_ok-value.value) (sym c.in_ok-number.ensures.same)
    (subst (λ (h : Holds). IsUsable shown h c.in_ok-value.value) (sym c.in_ok-number.ensures.holds) (c.in_ok-value.ensures shown held c.requires.ready c.requires.from).usable)

pub returns-clause-value : goal.returns-clause-value
returns-clause-value g c =
    let shown = g.V.CodeView.shown c.args.view.now in
    let held = g.V.CodeView.held c.args.view.now in
    element_read c.element.result shown (g.V.CodeView.shown c.term_in.new.view) c.in_ok-number.number _ c.in_ok-value.value _ c.in_ok-number.ensures.same c.in_ok-number.ensures.ok
    (c.in_ok-value.ensures shown held c.requires.ready c.requires.from).shows c.element.ensures.value
