-- What the frames name is held, and the rest is dropped.
use Rattle.std.proofs.Common.{◌∙◌, ap}
use Rattle.term_core.specs.declared.hold.Kind.TheVariants.{Frame as for_frames, Literal as for_literals}
use Rattle.machine_core.specs.HoldKinds.{held_for, holding}
use Rattle.machine_core.specs.Process.{code_names}
use Rattle.machine_core.proofs.Pausing.{instances_held, paused_at, quoted_held}
use Rattle.machine_core.proofs.pause.pause.Goals as goal

pub drop_unnamed-requires-clause-named : goal.drop_unnamed-requires-clause-named
drop_unnamed-requires-clause-named g c = λ serial e.
    instances_held (g.V.CodeView.shown c.args.view.now).words c.args.top c.args.frames.now c.as_slice.result.now (c.as_slice.ensures ∙ c.in_ok-push.ensures.ok) (g.V.CodeView.held c.args.view.now) serial c.requires.named e

pub drop_unnamed-requires-2-clause-named : goal.drop_unnamed-requires-2-clause-named
drop_unnamed-requires-2-clause-named g c = λ serial e.
    quoted_held (g.V.CodeView.shown c.args.view.now).words c.args.top c.args.frames.now c.as_slice-2.result.now (c.as_slice-2.ensures ∙ c.in_ok-push.ensures.ok) (g.V.CodeView.held c.args.view.now)
    (g.V.CodeView.held c.drop_unnamed.new.view) _ serial c.requires.named c.drop_unnamed.ensures.holds e

pub returns-clause-ok : goal.returns-clause-ok
returns-clause-ok g c = λ made.
    paused_at (g.V.CodeView.shown c.args.view.now).words c.args.top c.args.frames.now c.push.new.self c.in_ok-push.ensures.ok (g.V.CodeView.held c.args.view.now) (g.V.CodeView.held c.drop_unnamed.new.view)
    (g.V.CodeView.held c.drop_unnamed-2.new.view) made
    (c.drop_unnamed.ensures.holds ∙ ap (λ fs. holding (g.V.CodeView.held c.args.view.now) for_frames (held_for (code_names fs) for_frames)) c.as_slice.ensures)
    (c.drop_unnamed-2.ensures.holds ∙ ap (λ fs. holding (g.V.CodeView.held c.drop_unnamed.new.view) for_literals (held_for (code_names fs) for_literals)) c.as_slice-2.ensures)
