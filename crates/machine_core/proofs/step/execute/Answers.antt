-- What each part says of its instruction is what is asked.
use Rattle.std.proofs.Common.{◌∷◌}
use Rattle.machine_core.specs.Process.{frame_of, frames_of}
use Rattle.machine_core.specs.Stand.{stand_of}
use Rattle.machine_core.proofs.Steps.{comes_printed, comes_same, comes_still, comes_to}
use Rattle.machine_core.proofs.step.execute.Goals as goal

pub returns-in-Move-clause-ok : goal.returns-in-Move-clause-ok
returns-in-Move-clause-ok g c =
    comes_to c.move_value.result (g.V.CodeView.shown c.args.view.now) (g.V.CodeView.held c.args.view.now) (g.V.CodeView.held c.move_value.new.view) c.args.top.now c.move_value.new.top _ c.args.op.now
    (frames_of (g.V.CodeView.shown c.args.view.now).words c.args.below.now) c.args.lines.now c.in-Move.is c.move_value.ensures.ok

pub returns-in-Add-clause-ok : goal.returns-in-Add-clause-ok
returns-in-Add-clause-ok g c =
    comes_still c.add.result (g.V.CodeView.shown c.args.view.now) (g.V.CodeView.held c.args.view.now) (g.V.CodeView.held c.add.new.view) c.args.top.now c.add.new.top _ c.args.op.now
    (frames_of (g.V.CodeView.shown c.args.view.now).words c.args.below.now) c.args.lines.now c.in-Add.is c.add.ensures.holds c.add.ensures.ok

pub returns-in-Sub-clause-ok : goal.returns-in-Sub-clause-ok
returns-in-Sub-clause-ok g c =
    comes_still c.subtract.result (g.V.CodeView.shown c.args.view.now) (g.V.CodeView.held c.args.view.now) (g.V.CodeView.held c.subtract.new.view) c.args.top.now c.subtract.new.top _ c.args.op.now
    (frames_of (g.V.CodeView.shown c.args.view.now).words c.args.below.now) c.args.lines.now c.in-Sub.is c.subtract.ensures.holds c.subtract.ensures.ok

pub returns-in-Eq-clause-ok : goal.returns-in-Eq-clause-ok
returns-in-Eq-clause-ok g c =
    comes_still c.test_equal.result (g.V.CodeView.shown c.args.view.now) (g.V.CodeView.held c.args.view.now) (g.V.CodeView.held c.test_equal.new.view) c.args.top.now c.test_equal.new.top _ c.args.op.now
    (frames_of (g.V.CodeView.shown c.args.view.now).words c.args.below.now) c.args.lines.now c.in-Eq.is c.test_equal.ensures.holds c.test_equal.ensures.ok

pub returns-in-Less-clause-ok : goal.returns-in-Less-clause-ok
returns-in-Less-clause-ok g c =
    comes_still c.test_less.result (g.V.CodeView.shown c.args.view.now) (g.V.CodeView.held c.args.view.now) (g.V.CodeView.held c.test_less.new.view) c.args.top.now c.test_less.new.top _ c.args.op.now
    (frames_of (g.V.CodeView.shown c.args.view.now).words c.args.below.now) c.args.lines.now c.in-Less.is c.test_less.ensures.holds c.test_less.ensures.ok

pub returns-in-Pget-clause-ok : goal.returns-in-Pget-clause-ok
returns-in-Pget-clause-ok g c =
    comes_to c.get_key.result (g.V.CodeView.shown c.args.view.now) (g.V.CodeView.held c.args.view.now) (g.V.CodeView.held c.get_key.new.view) c.args.top.now c.get_key.new.top _ c.args.op.now
    (frames_of (g.V.CodeView.shown c.args.view.now).words c.args.below.now) c.args.lines.now c.in-Pget.is c.get_key.ensures.ok

pub returns-in-PgetOr-clause-ok : goal.returns-in-PgetOr-clause-ok
returns-in-PgetOr-clause-ok g c =
    comes_to c.get_key_or.result (g.V.CodeView.shown c.args.view.now) (g.V.CodeView.held c.args.view.now) (g.V.CodeView.held c.get_key_or.new.view) c.args.top.now c.get_key_or.new.top _ c.args.op.now
    (frames_of (g.V.CodeView.shown c.args.view.now).words c.args.below.now) c.args.lines.now c.in-PgetOr.is c.get_key_or.ensures.ok

pub returns-in-Elem-clause-ok : goal.returns-in-Elem-clause-ok
returns-in-Elem-clause-ok g c =
    comes_to c.get_element.result (g.V.CodeView.shown c.args.view.now) (g.V.CodeView.held c.args.view.now) (g.V.CodeView.held c.get_element.new.view) c.args.top.now c.get_element.new.top _ c.args.op.now
    (frames_of (g.V.CodeView.shown c.args.view.now).words c.args.below.now) c.args.lines.now c.in-Elem.is c.get_element.ensures.ok

pub returns-in-Ret-clause-ok : goal.returns-in-Ret-clause-ok
returns-in-Ret-clause-ok g c =
    let words = (g.V.CodeView.shown c.args.view.now).words in
    comes_same c.leave.result (g.V.CodeView.shown c.args.view.now) (g.V.CodeView.held c.args.view.now) c.args.top.now _ c.args.op.now (frames_of words c.args.below.now) c.args.lines.now
    (λ o. stand_of o (frame_of words c.leave.new.top ∷ frames_of words c.leave.new.below) (g.V.CodeView.held c.leave.new.view) c.args.lines.now) c.in-Ret.is (c.leave.ensures.ok c.args.lines.now)

pub returns-in-Print-clause-ok : goal.returns-in-Print-clause-ok
returns-in-Print-clause-ok g c =
    comes_printed c.print.result (g.V.CodeView.shown c.args.view.now) (g.V.CodeView.held c.args.view.now) (g.V.CodeView.held c.print.new.view) c.args.top.now c.print.new.top _ c.args.op.now
    (frames_of (g.V.CodeView.shown c.args.view.now).words c.args.below.now) c.args.lines.now c.print.new.lines c.in-Print.is c.print.ensures.holds (c.print.ensures.ok (frames_of (g.V.CodeView.shown c.args.view.now).words c.args.below.now))
