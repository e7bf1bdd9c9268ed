-- The decision is staged.
use Rattle.progress_words.specs.Tokens.{written_by}
use Rattle.breakpoints.specs.declared.patch.Phase.TheVariants.{Begun}
use Rattle.breakpoints.proofs.PhaseSteps.{stage_stands}
use Rattle.breakpoints.proofs.PatchCalls.{at_phase, stage_moves}
use Rattle.breakpoints.proofs.patch.Patch.stage.Goals as goal

pub returns-clause-patch : goal.returns-clause-patch
returns-clause-patch g c =
    let x = c.args.self.now in
    let old = written_by c.args.writer.now in
    let new = written_by c.later-need.new.writer in
    (stage_stands x.at x.on old (written_by c.decide.new.writer) new c.later-need.result (at_phase x old Begun c.requires.phase c.requires.patch)
    c.decide.ensures.stored c.later-need.ensures.loaded c.later-need.ensures.taken).0

pub returns-clause-answers : goal.returns-clause-answers
returns-clause-answers g c = λ p.
    let x = c.args.self.now in
    let old = written_by c.args.writer.now in
    let new = written_by c.later-need.new.writer in
    stage_moves x old new c.later-need.result c.requires.phase
    (stage_stands x.at x.on old (written_by c.decide.new.writer) new c.later-need.result (at_phase x old Begun c.requires.phase c.requires.patch)
    c.decide.ensures.stored c.later-need.ensures.loaded c.later-need.ensures.taken).1
