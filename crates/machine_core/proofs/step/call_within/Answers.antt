-- The call goes to a function of the frame's own instance, under its name.
use Rattle.std.proofs.Common.{◌∷◌}
use Rattle.machine_core.specs.Process.{frame_of, frames_of}
use Rattle.machine_core.specs.Stand.{stand_of}
use Rattle.machine_core.specs.View.{Shown}
use Rattle.machine_core.proofs.Steps.{called_inside}
use Rattle.machine_core.proofs.step.call_within.Goals as goal

pub returns-clause-ok : goal.returns-clause-ok
returns-clause-ok g c =
    called_inside c.call.result (g.V.CodeView.shown c.args.view.now) (g.V.CodeView.shown c.mfa_of-to.new.view) (g.V.CodeView.held c.args.view.now) (g.V.CodeView.held c.mfa_of-to.new.view) c.args.top.now c.args.below.now c.args.function c.mfa_of-to.result c.args.at
    (λ (v : Shown) o. stand_of o (frame_of v.words c.call.new.top ∷ frames_of v.words c.call.new.below) (g.V.CodeView.held c.call.new.view) c.call.new.lines) c.args.lines.now
    c.mfa_of-to.ensures.same c.mfa_of-to.ensures.holds c.mfa_of-to.ensures.value c.call.ensures.ok
