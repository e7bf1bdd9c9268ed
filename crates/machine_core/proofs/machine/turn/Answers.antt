-- Below the limit, where no frame stands in doomed code, a turn is what its instructions do once literals are copied, and where it goes on the process may have another.
use Rattle.std.proofs.Common.{◌∷◌, ◌∙◌, All, ap, refl, subst, sym}
use Rattle.machine_core.specs.Process.{frame_of, frames_of, process_of}
use Rattle.machine_core.specs.View.{AreValues, IsInBlock, Shown}
use Rattle.machine_core.proofs.CodeNames.{process_named}
use Rattle.machine_core.proofs.Placing.{keeps_standing}
use Rattle.machine_core.proofs.TurnAnswers.{begun_at, begun_ready, runs_seen, values_seen}
use Rattle.machine_core.proofs.Turns.{gives_ok, held_named, held_ok, is_below, run_again_ok, run_behind_ok, runs_spared}
use Rattle.machine_core.proofs.machine.turn.Goals as goal

pub doomed_serial-requires-clause-named : goal.doomed_serial-requires-clause-named
doomed_serial-requires-clause-named g c =
    let words = (g.V.CodeView.shown c.args.view.now).words in
    held_named (g.V.CodeView.held c.args.view.now) (frames_of words c.args.process.now.frames) _ c.requires.ready.names (ap (frames_of words) c.as_slice.ensures)

pub doomed_serial-requires-clause-values : goal.doomed_serial-requires-clause-values
doomed_serial-requires-clause-values g c = subst (AreValues (g.V.CodeView.shown c.args.view.now)) (sym c.as_slice.ensures) c.requires.ready.values

pub copy_retired-requires-clause-stand : goal.copy_retired-requires-clause-stand
copy_retired-requires-clause-stand g c =
    let shown = g.V.CodeView.shown c.args.view.now in
    subst (λ (v : Shown). All (IsInBlock v) c.in_ok-areas.areas.literals) (sym c.in_default.ensures.same)
    (c.in_ok-areas.ensures.stand shown (subst (AreValues shown) (sym c.as_slice-2.ensures) c.requires.ready.values))

pub copy_retired-requires-clause-tracked : goal.copy_retired-requires-clause-tracked
copy_retired-requires-clause-tracked g c =
    c.in_default.ensures.holds ∙ c.requires.ready.names ∙ sym (process_named (g.V.CodeView.shown c.args.view.now).words c.args.process.now c.in_ok-areas.areas c.as_slice-2.result.now c.in_ok-areas.ensures.names c.as_slice-2.ensures)

pub run-requires-clause-ready : goal.run-requires-clause-ready
run-requires-clause-ready g c =
    let shown = g.V.CodeView.shown c.args.view.now in
    let p = process_of shown.words c.args.process.now in
    let now = g.V.CodeView.held c.copy_retired.new.view in
    let then = g.V.CodeView.held c.begin.new.view in
    let begun = begun_at shown (g.V.CodeView.shown c.doomed_serial.new.view) (g.V.CodeView.shown c.copy_retired.new.view) p c.args.process.now.frames c.copy_retired.new.frames c.begin.new.frames now then c.in-Ok.top c.in_ok-top.top
    c.args.lines.now c.begin.new.lines c.in_default.ensures.same c.in_ok-copy_retired.ensures.same refl c.in_ok-copy_retired.ensures.copied c.in_ok-copy_retired.ensures.names c.in-Ok.is c.in_ok-top.ensures.ok in
    let same = c.in_ok-copy_retired.ensures.same ∙ c.in_default.ensures.same in
    begun_ready shown (g.V.CodeView.shown c.copy_retired.new.view) (g.V.CodeView.shown c.begin.new.view) p now then c.in-Ok.top c.begin.new.frames c.args.lines.now c.begin.new.lines c.in_ok-top.top (keeps_standing shown c.requires.lawful)
    (c.in_ok-top.ensures.same ∙ same) same c.requires.ready.placed begun c.in-Ok.is c.in_ok-top.ensures.top c.in_ok-top.ensures.values

pub returns-in-Ok-clause-ok : goal.returns-in-Ok-clause-ok
returns-in-Ok-clause-ok g c =
    let shown = g.V.CodeView.shown c.args.view.now in
    let p = process_of shown.words c.args.process.now in
    let now = g.V.CodeView.held c.copy_retired.new.view in
    let then = g.V.CodeView.held c.begin.new.view in
    let begun = begun_at shown (g.V.CodeView.shown c.doomed_serial.new.view) (g.V.CodeView.shown c.copy_retired.new.view) p c.args.process.now.frames c.copy_retired.new.frames c.begin.new.frames now then c.in-Ok.top c.in_ok-top.top
    c.args.lines.now c.begin.new.lines c.in_default.ensures.same c.in_ok-copy_retired.ensures.same refl c.in_ok-copy_retired.ensures.copied c.in_ok-copy_retired.ensures.names c.in-Ok.is c.in_ok-top.ensures.ok in
    let same = c.in_ok-copy_retired.ensures.same ∙ c.in_default.ensures.same in
    let frames = frame_of shown.words c.in-Ok.top ∷ frames_of shown.words c.begin.new.frames in
    let last = g.V.CodeView.held c.run.new.view in
    let runs = runs_spared shown.reads now p (frames_of shown.words c.as_slice.result.now) c.if-process.false begun.names (ap (frames_of shown.words) c.as_slice.ensures) c.in_default.ensures.value in
    let ran = runs_seen c.run.result shown (g.V.CodeView.shown c.begin.new.view) c.in-Ok.top c.begin.new.frames c.run.new.frames then last c.begin.new.lines c.run.new.lines (c.in_ok-top.ensures.same ∙ same) c.run.ensures.ok in
    gives_ok c.run.result shown.reads p last (frames_of shown.words c.run.new.frames) c.args.lines.now c.run.new.lines (is_below p.turns c.if-process.false)
    (run_behind_ok c.run.result shown shown p now then last frames (frames_of shown.words c.run.new.frames) c.args.lines.now c.begin.new.lines c.run.new.lines refl runs begun.begins ran)

pub returns-in-Ok-clause-held : goal.returns-in-Ok-clause-held
returns-in-Ok-clause-held g c =
    let shown = g.V.CodeView.shown c.args.view.now in
    let p = process_of shown.words c.args.process.now in
    let now = g.V.CodeView.held c.copy_retired.new.view in
    let then = g.V.CodeView.held c.begin.new.view in
    let begun = begun_at shown (g.V.CodeView.shown c.doomed_serial.new.view) (g.V.CodeView.shown c.copy_retired.new.view) p c.args.process.now.frames c.copy_retired.new.frames c.begin.new.frames now then c.in-Ok.top c.in_ok-top.top
    c.args.lines.now c.begin.new.lines c.in_default.ensures.same c.in_ok-copy_retired.ensures.same refl c.in_ok-copy_retired.ensures.copied c.in_ok-copy_retired.ensures.names c.in-Ok.is c.in_ok-top.ensures.ok in
    let same = c.in_ok-copy_retired.ensures.same ∙ c.in_default.ensures.same in
    let frames = frame_of shown.words c.in-Ok.top ∷ frames_of shown.words c.begin.new.frames in
    let last = g.V.CodeView.held c.run.new.view in
    let runs = runs_spared shown.reads now p (frames_of shown.words c.as_slice.result.now) c.if-process.false begun.names (ap (frames_of shown.words) c.as_slice.ensures) c.in_default.ensures.value in
    let ran = runs_seen c.run.result shown (g.V.CodeView.shown c.begin.new.view) c.in-Ok.top c.begin.new.frames c.run.new.frames then last c.begin.new.lines c.run.new.lines (c.in_ok-top.ensures.same ∙ same) c.run.ensures.ok in
    held_ok c.run.result shown.reads p last (frames_of shown.words c.run.new.frames) c.args.lines.now c.run.new.lines
    (run_behind_ok c.run.result shown shown p now then last frames (frames_of shown.words c.run.new.frames) c.args.lines.now c.begin.new.lines c.run.new.lines refl runs begun.begins ran)

pub returns-in-Ok-clause-again : goal.returns-in-Ok-clause-again
returns-in-Ok-clause-again g c =
    let shown = g.V.CodeView.shown c.args.view.now in
    let p = process_of shown.words c.args.process.now in
    let now = g.V.CodeView.held c.copy_retired.new.view in
    let then = g.V.CodeView.held c.begin.new.view in
    let begun = begun_at shown (g.V.CodeView.shown c.doomed_serial.new.view) (g.V.CodeView.shown c.copy_retired.new.view) p c.args.process.now.frames c.copy_retired.new.frames c.begin.new.frames now then c.in-Ok.top c.in_ok-top.top
    c.args.lines.now c.begin.new.lines c.in_default.ensures.same c.in_ok-copy_retired.ensures.same refl c.in_ok-copy_retired.ensures.copied c.in_ok-copy_retired.ensures.names c.in-Ok.is c.in_ok-top.ensures.ok in
    let same = c.in_ok-copy_retired.ensures.same ∙ c.in_default.ensures.same in
    let frames = frame_of shown.words c.in-Ok.top ∷ frames_of shown.words c.begin.new.frames in
    let last = g.V.CodeView.held c.run.new.view in
    let ran = runs_seen c.run.result shown (g.V.CodeView.shown c.begin.new.view) c.in-Ok.top c.begin.new.frames c.run.new.frames then last c.begin.new.lines c.run.new.lines (c.in_ok-top.ensures.same ∙ same) c.run.ensures.ok in
    run_again_ok c.run.result shown shown p now then last frames _ c.args.lines.now c.begin.new.lines c.run.new.lines refl (keeps_standing shown c.requires.lawful) c.requires.ready.placed begun.names begun.begins ran
    (values_seen c.run.result shown (g.V.CodeView.shown c.begin.new.view) c.run.new.frames (c.in_ok-top.ensures.same ∙ same) c.run.ensures.values)
