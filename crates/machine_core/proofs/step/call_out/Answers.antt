-- The call goes to what the name reaches.
use Rattle.std.proofs.Common.{◌∷◌}
use Rattle.server_core.specs.ServerState.{entry_of}
use Rattle.machine_core.specs.Process.{frame_of, frames_of}
use Rattle.machine_core.specs.Stand.{stand_of}
use Rattle.machine_core.specs.View.{Shown}
use Rattle.machine_core.proofs.Steps.{called_outside}
use Rattle.machine_core.proofs.step.call_out.Goals as goal

pub returns-clause-ok : goal.returns-clause-ok
returns-clause-ok g c =
    called_outside c.call.result (g.V.CodeView.shown c.args.view.now) (g.V.CodeView.shown c.export.new.self) (g.V.CodeView.held c.args.view.now) (g.V.CodeView.held c.export.new.self) c.args.top.now c.args.below.now (entry_of c.in-Some.code) c.args.to c.args.at
    (λ (v : Shown) o. stand_of o (frame_of v.words c.call.new.top ∷ frames_of v.words c.call.new.below) (g.V.CodeView.held c.call.new.view) c.call.new.lines) c.args.lines.now
    c.in-Some.ensures.same c.in-Some.ensures.holds c.in-Some.ensures.value c.call.ensures.ok
