-- Each frame's area is held and stands in its block, as at first.
use Rattle.std.proofs.Common.{sym, subst}
use Rattle.machine_core.specs.Holds.{Holds}
use Rattle.machine_core.specs.Process.{frames_of}
use Rattle.machine_core.specs.Stand.{AreHeld}
use Rattle.machine_core.specs.View.{HasValues, IsInBlock, Shown}
use Rattle.machine_core.proofs.AreaLists.{next_of}
use Rattle.machine_core.proofs.DoomedFrames.{named_frame}
use Rattle.machine_core.proofs.doom.doomed_serial.Goals as goal

pub doomed-requires-clause-named : goal.doomed-requires-clause-named
doomed-requires-clause-named g c =
    named_frame (g.V.CodeView.shown c.args.view.now).words (g.V.CodeView.held c.loop-frame.view) c.args.frames.now c.loop-frame.frame-index c.frame-item.result c.loop-frame-test.true c.frame-item.is
    (subst (λ (h : Holds). AreHeld h (frames_of (g.V.CodeView.shown c.args.view.now).words c.args.frames.now)) (sym c.loop-frame.invariant.held) c.requires.named)

pub doomed-requires-clause-stands : goal.doomed-requires-clause-stands
doomed-requires-clause-stands g c =
    let shown = g.V.CodeView.shown c.args.view.now in
    let frame = next_of (HasValues shown) c.args.frames.now c.loop-frame.frame-index c.frame-item.result c.loop-frame-test.true c.frame-item.is c.requires.values in
    subst (λ (v : Shown). IsInBlock v c.frame-item.result.code.area) (sym c.loop-frame.invariant.shown) frame.0
