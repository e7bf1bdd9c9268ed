-- Nothing is copied where nothing is retired; else what the copied frames name stays held.
use Rattle.std.proofs.Common.{◌≡◌, ◌∙◌, ap, subst, sym}
use Rattle.machine_core.specs.Process.{frame_names, frames_of}
use Rattle.machine_core.specs.Turn.{copied}
use Rattle.machine_core.specs.View.{Shown}
use Rattle.machine_core.proofs.CopiedValues.{all_named, copied_areas, copied_holds, copied_named, nothing_copied}
use Rattle.machine_core.proofs.copying.copy_retired.Goals as goal

pub returns-then-not-is_one_retired-clause-copied : goal.returns-then-not-is_one_retired-clause-copied
returns-then-not-is_one_retired-clause-copied g c =
    let shown = g.V.CodeView.shown c.args.view.now in
    sym (nothing_copied shown.reads (g.V.CodeView.held c.args.view.now) (frames_of shown.words c.args.frames.now) c.args.areas.now c.as_slice.result.now c.requires.names c.requires.tracked c.as_slice.ensures
    (sym c.is_one_retired.ensures.value ∙ c.if-not-is_one_retired.true))

pub returns-then-not-is_one_retired-clause-names : goal.returns-then-not-is_one_retired-clause-names
returns-then-not-is_one_retired-clause-names g c =
    let shown = g.V.CodeView.shown c.args.view.now in
    c.is_one_retired.ensures.holds ∙ c.requires.names
    ∙ ap frame_names (sym (nothing_copied shown.reads (g.V.CodeView.held c.args.view.now) (frames_of shown.words c.args.frames.now) c.args.areas.now c.as_slice.result.now c.requires.names c.requires.tracked c.as_slice.ensures
    (sym c.is_one_retired.ensures.value ∙ c.if-not-is_one_retired.true)))

pub copy_frames-requires-clause-named : goal.copy_frames-requires-clause-named
copy_frames-requires-clause-named g c =
    all_named (g.V.CodeView.shown c.args.view.now) (g.V.CodeView.shown c.is_one_retired.new.view) (g.V.CodeView.held c.args.view.now) (g.V.CodeView.held c.is_one_retired.new.view) c.args.frames.now
    c.is_one_retired.ensures.same c.is_one_retired.ensures.holds c.requires.names

pub drop_unnamed-requires-clause-named : goal.drop_unnamed-requires-clause-named
drop_unnamed-requires-clause-named g c = λ serial h.
    let shown = g.V.CodeView.shown c.args.view.now in
    let is = subst (λ (s : Shown). frames_of s.words c.copy_frames.new.frames ≡ copied s.reads (frames_of s.words c.args.frames.now)) c.is_one_retired.ensures.same c.in_ok-copy_frames.ensures.copied in
    copied_named shown.reads shown.words (g.V.CodeView.held c.args.view.now) c.args.frames.now c.as_slice-2.result.now c.requires.names (ap (frames_of shown.words) c.as_slice-2.ensures ∙ is)
    (g.V.CodeView.held c.copy_frames.new.view) serial (c.in_ok-copy_frames.ensures.holds ∙ c.is_one_retired.ensures.holds) h

pub returns-clause-names : goal.returns-clause-names
returns-clause-names g c =
    let shown = g.V.CodeView.shown c.args.view.now in
    let is = subst (λ (s : Shown). frames_of s.words c.copy_frames.new.frames ≡ copied s.reads (frames_of s.words c.args.frames.now)) c.is_one_retired.ensures.same c.in_ok-copy_frames.ensures.copied in
    copied_holds shown.reads shown.words (g.V.CodeView.held c.args.view.now) c.args.frames.now c.as_slice-2.result.now c.requires.names (ap (frames_of shown.words) c.as_slice-2.ensures ∙ is)
    (g.V.CodeView.held c.copy_frames.new.view) (g.V.CodeView.held c.drop_unnamed.new.view) (c.in_ok-copy_frames.ensures.holds ∙ c.is_one_retired.ensures.holds) c.drop_unnamed.ensures.holds

pub returns-clause-tracked : goal.returns-clause-tracked
returns-clause-tracked g c =
    let shown = g.V.CodeView.shown c.args.view.now in
    let is = subst (λ (s : Shown). frames_of s.words c.copy_frames.new.frames ≡ copied s.reads (frames_of s.words c.args.frames.now)) c.is_one_retired.ensures.same c.in_ok-copy_frames.ensures.copied in
    copied_areas shown.reads shown.words (g.V.CodeView.held c.args.view.now) c.args.frames.now c.as_slice-2.result.now c.requires.names (ap (frames_of shown.words) c.as_slice-2.ensures ∙ is)
    (g.V.CodeView.held c.copy_frames.new.view) (g.V.CodeView.held c.drop_unnamed.new.view) c.in_ok-areas.field-0 c.as_slice-3.result.now
    (c.in_ok-copy_frames.ensures.holds ∙ c.is_one_retired.ensures.holds) c.drop_unnamed.ensures.holds c.in_ok-areas.ensures.names (c.as_slice-3.ensures ∙ sym c.as_slice-2.ensures)
