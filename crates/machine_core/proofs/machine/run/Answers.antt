-- What is left goes on with each instruction, and is a pause after the last one.
use Rattle.std.proofs.Common.{arith, ◌∷◌, ◌∙◌, sym, subst}
use Rattle.machine_core.specs.Process.{frame_of, frames_of}
use Rattle.machine_core.specs.Stand.{AreHeld}
use Rattle.machine_core.specs.View.{AreValues, HasValues, Shown}
use Rattle.machine_core.proofs.Placing.{keeps_standing}
use Rattle.machine_core.proofs.Runs.{left_on, left_over, left_none, left_pauses, paused_ok, standing_on, standing_paused}
use Rattle.machine_core.proofs.TurnAnswers.{pause_seen, paused_values, ready_seen, step_seen}
use Rattle.machine_core.proofs.machine.run.Goals as goal

pub step-requires-clause-ready : goal.step-requires-clause-ready
step-requires-clause-ready g c = ready_seen (g.V.CodeView.shown c.args.view.now) (g.V.CodeView.shown c.loop.view) (g.V.CodeView.held c.loop.view) c.loop.top c.loop.frames c.loop.invariant.shown c.loop.invariant.ready

pub pause-requires-clause-named : goal.pause-requires-clause-named
pause-requires-clause-named g c =
    let shown = g.V.CodeView.shown c.args.view.now in
    let seen = g.V.CodeView.shown c.loop.view in
    let before = frame_of shown.words c.loop.top ∷ frames_of shown.words c.loop.frames in
    let after = frame_of shown.words c.step.new.top ∷ frames_of shown.words c.step.new.below in
    let held = g.V.CodeView.held c.loop.view in
    let now = g.V.CodeView.held c.step.new.view in
    let e = rw c.in-Yields.is at (step_seen shown seen c.loop.top c.step.new.top c.loop.frames c.step.new.below held now c.loop.lines c.step.new.lines c.in_ok-step.field-0 c.loop.invariant.shown c.in_ok-step.ensures.ok) in
    let stands = standing_paused shown.reads held now c.loop.lines before after c.step.new.lines (keeps_standing shown c.requires.lawful) c.loop.invariant.ready.frames e in
    subst (λ (v : Shown). AreHeld now (frame_of v.words c.step.new.top ∷ frames_of v.words c.step.new.below)) (sym (c.in_ok-step.ensures.same ∙ c.loop.invariant.shown)) stands.named

pub returns-in-Yields-clause-ok : goal.returns-in-Yields-clause-ok
returns-in-Yields-clause-ok g c =
    let shown = g.V.CodeView.shown c.args.view.now in
    let seen = g.V.CodeView.shown c.loop.view in
    let before = frame_of shown.words c.loop.top ∷ frames_of shown.words c.loop.frames in
    let after = frame_of shown.words c.step.new.top ∷ frames_of shown.words c.step.new.below in
    let held = g.V.CodeView.held c.loop.view in
    let now = g.V.CodeView.held c.step.new.view in
    let e = rw c.in-Yields.is at (step_seen shown seen c.loop.top c.step.new.top c.loop.frames c.step.new.below held now c.loop.lines c.step.new.lines c.in_ok-step.field-0 c.loop.invariant.shown c.in_ok-step.ensures.ok) in
    let same = c.in_ok-step.ensures.same ∙ c.loop.invariant.shown in
    paused_ok c.pause.result _ after (frames_of shown.words c.pause.new.frames) (g.V.CodeView.held c.pause.new.view) c.step.new.lines
    (pause_seen c.pause.result shown (g.V.CodeView.shown c.step.new.view) c.step.new.top c.step.new.below c.pause.new.frames (g.V.CodeView.held c.pause.new.view) same c.pause.ensures.ok)
    (left_pauses shown.reads c.loop.counter before after held now c.loop.lines c.step.new.lines _ c.loop.invariant.left c.loop-test.true e)

pub returns-in-Yields-clause-values : goal.returns-in-Yields-clause-values
returns-in-Yields-clause-values g c =
    paused_values c.pause.result (g.V.CodeView.shown c.args.view.now) (g.V.CodeView.shown c.step.new.view) c.pause.new.frames (c.in_ok-step.ensures.same ∙ c.loop.invariant.shown) c.pause.ensures.values

pub returns-in-Ends-clause-ok : goal.returns-in-Ends-clause-ok
returns-in-Ends-clause-ok g c =
    let shown = g.V.CodeView.shown c.args.view.now in
    let seen = g.V.CodeView.shown c.loop.view in
    let before = frame_of shown.words c.loop.top ∷ frames_of shown.words c.loop.frames in
    let after = frame_of shown.words c.step.new.top ∷ frames_of shown.words c.step.new.below in
    let held = g.V.CodeView.held c.loop.view in
    let now = g.V.CodeView.held c.step.new.view in
    let e = rw c.in-Ends.is at (step_seen shown seen c.loop.top c.step.new.top c.loop.frames c.step.new.below held now c.loop.lines c.step.new.lines c.in_ok-step.field-0 c.loop.invariant.shown c.in_ok-step.ensures.ok) in
    rw c.clear.ensures (left_over shown.reads c.loop.counter before c.in-Ends.end held now c.loop.lines c.step.new.lines _ c.loop.invariant.left c.loop-test.true e)

pub loop-preserved : goal.loop-preserved
loop-preserved g c =
    let shown = g.V.CodeView.shown c.args.view.now in
    let seen = g.V.CodeView.shown c.loop.view in
    let before = frame_of shown.words c.loop.top ∷ frames_of shown.words c.loop.frames in
    let after = frame_of shown.words c.step.new.top ∷ frames_of shown.words c.step.new.below in
    let held = g.V.CodeView.held c.loop.view in
    let now = g.V.CodeView.held c.step.new.view in
    let e = rw c.in-GoesOn.is at (step_seen shown seen c.loop.top c.step.new.top c.loop.frames c.step.new.below held now c.loop.lines c.step.new.lines c.in_ok-step.field-0 c.loop.invariant.shown c.in_ok-step.ensures.ok) in
    let same = c.loop.invariant.shown in
    record {
      shown = c.in_ok-step.ensures.same ∙ c.loop.invariant.shown;
      tracked = c.in_ok-step.ensures.tracked;
      ready = record {
        frames = standing_on shown.reads held now c.loop.lines before after c.step.new.lines (keeps_standing shown c.requires.lawful) c.loop.invariant.ready.frames e;
        top_values = subst (λ (v : Shown). HasValues v c.step.new.top) same c.in_ok-step.ensures.values;
        below_values = subst (λ (v : Shown). AreValues v c.step.new.below) same c.in_ok-step.ensures.below;
      };
      left = left_on shown.reads c.loop.counter before after held now c.loop.lines c.step.new.lines _ c.loop.invariant.left e;
    }

pub pause-requires-2-clause-named : goal.pause-requires-2-clause-named
pause-requires-2-clause-named g c =
    let ready = ready_seen (g.V.CodeView.shown c.args.view.now) (g.V.CodeView.shown c.loop.view) (g.V.CodeView.held c.loop.view) c.loop.top c.loop.frames c.loop.invariant.shown c.loop.invariant.ready in ready.frames.named

pub returns-clause-ok : goal.returns-clause-ok
returns-clause-ok g c =
    let shown = g.V.CodeView.shown c.args.view.now in
    let before = frame_of shown.words c.loop.top ∷ frames_of shown.words c.loop.frames in
    paused_ok c.pause-2.result _ before (frames_of shown.words c.pause-2.new.frames) (g.V.CodeView.held c.pause-2.new.view) c.loop.lines
    (pause_seen c.pause-2.result shown (g.V.CodeView.shown c.loop.view) c.loop.top c.loop.frames c.pause-2.new.frames (g.V.CodeView.held c.pause-2.new.view) c.loop.invariant.shown c.pause-2.ensures.ok)
    (left_none shown.reads c.loop.counter before (g.V.CodeView.held c.loop.view) c.loop.lines _ c.loop.invariant.left (omega arith))

pub returns-clause-values : goal.returns-clause-values
returns-clause-values g c = paused_values c.pause-2.result (g.V.CodeView.shown c.args.view.now) (g.V.CodeView.shown c.loop.view) c.pause-2.new.frames c.loop.invariant.shown c.pause-2.ensures.values
