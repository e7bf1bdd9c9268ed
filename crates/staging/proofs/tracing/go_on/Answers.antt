-- Each step has one phase less in front of it.
use Rattle.std.proofs.Common.{length, refl, ap, subst, ◌∙◌, arith}
use Rattle.progress_words.specs.Tokens.{written_by}
use Rattle.server_core.specs.Decided.{change_made}
use Rattle.breakpoints.specs.declared.patch.PatchStep.{PatchStep}
use Rattle.staging.specs.declared.stage.Stage.TheVariants.{Patching}
use Rattle.staging.specs.Traced.{AdvanceAnswers}
use Rattle.staging.proofs.Known.{known_on, known_same}
use Rattle.staging.proofs.PatchNeeds.{need_on, need_same}
use Rattle.staging.proofs.TraceRounds.{few_left, moves_more, some_left, switched_from, waits_from}
use Rattle.staging.proofs.tracing.go_on.Goals as goal

pub loop-round-init : goal.loop-round-init
loop-round-init g c = record {
  tables = c.requires.tables;
  exports = refl;
  patched = c.requires.patched;
  published = refl;
  known = known_same (written_by c.args.tables.now.writer) (written_by c.args.tables.now.writer) refl;
  need = need_same c.args.tables.now;
  left = (let few = few_left c.args.tables.now.patch in omega (arith, few));
}

pub advance_patch-requires-clause-names : goal.advance_patch-requires-clause-names
advance_patch-requires-clause-names g c = c.loop-round.invariant.exports ∙ c.requires.names

pub advance_patch-requires-clause-room : goal.advance_patch-requires-clause-room
advance_patch-requires-clause-room g c = let same = ap length c.loop-round.invariant.published in let room = c.requires.room in omega (arith, same, room)

pub loop-round-preserved : goal.loop-round-preserved
loop-round-preserved g c =
    moves_more _ _ g.K.Naming.names c.args.server.now c.args.change.now c.loop-round.round c.args.tables.now c.loop-round.tables c.advance_patch.new.tables c.loop-round.invariant c.advance_patch.ensures.tables c.advance_patch.ensures.exports c.advance_patch.ensures.known c.advance_patch.ensures.need
    (subst (λ (step : PatchStep). AdvanceAnswers g.K.Naming.names c.args.server.now c.args.change.now c.loop-round.tables c.advance_patch.new.tables step) c.in-Moved.is c.in-Ok.ensures.answers)

pub returns-in-Published-clause-answers : goal.returns-in-Published-clause-answers
returns-in-Published-clause-answers g c =
    switched_from g.K.Naming.names (change_made c.args.server.now c.args.change.now).state c.args.tables.now c.loop-round.tables c.advance_patch.new.tables _ c.loop-round.invariant.published
    (subst (λ (step : PatchStep). AdvanceAnswers g.K.Naming.names c.args.server.now c.args.change.now c.loop-round.tables c.advance_patch.new.tables step) c.in-Published.is c.in-Ok.ensures.answers)

pub returns-in-Published-clause-exports : goal.returns-in-Published-clause-exports
returns-in-Published-clause-exports g c = c.advance_patch.ensures.exports ∙ c.loop-round.invariant.exports

pub returns-in-Published-clause-need : goal.returns-in-Published-clause-need
returns-in-Published-clause-need g c = need_on c.args.tables.now c.loop-round.tables c.advance_patch.new.tables c.loop-round.invariant.need c.advance_patch.ensures.need

pub returns-in-Published-clause-known : goal.returns-in-Published-clause-known
returns-in-Published-clause-known g c =
    known_on (written_by c.args.tables.now.writer) (written_by c.loop-round.tables.writer) (written_by c.advance_patch.new.tables.writer) c.loop-round.invariant.known c.advance_patch.ensures.known

pub unreachable-requires : goal.unreachable-requires
unreachable-requires g c = subst (λ (step : PatchStep). AdvanceAnswers g.K.Naming.names c.args.server.now c.args.change.now c.loop-round.tables c.advance_patch.new.tables step) c.in-Finished.is c.in-Ok.ensures.answers

pub returns-in-Err-clause-answers : goal.returns-in-Err-clause-answers
returns-in-Err-clause-answers g c =
    waits_from g.K.Naming.names c.args.server.now c.args.change.now c.args.tables.now c.loop-round.tables c.advance_patch.new.tables Patching c.in-Err.answer c.loop-round.invariant.published c.loop-round.invariant.need
    (need_on c.args.tables.now c.loop-round.tables c.advance_patch.new.tables c.loop-round.invariant.need c.advance_patch.ensures.need) c.in-Err.ensures.waits

pub returns-in-Err-clause-need : goal.returns-in-Err-clause-need
returns-in-Err-clause-need g c = need_on c.args.tables.now c.loop-round.tables c.advance_patch.new.tables c.loop-round.invariant.need c.advance_patch.ensures.need

pub returns-in-Err-clause-exports : goal.returns-in-Err-clause-exports
returns-in-Err-clause-exports g c = c.advance_patch.ensures.exports ∙ c.loop-round.invariant.exports

pub returns-in-Err-clause-known : goal.returns-in-Err-clause-known
returns-in-Err-clause-known g c =
    known_on (written_by c.args.tables.now.writer) (written_by c.loop-round.tables.writer) (written_by c.advance_patch.new.tables.writer) c.loop-round.invariant.known c.advance_patch.ensures.known

pub unreachable-requires-2 : goal.unreachable-requires-2
unreachable-requires-2 g c =
    let some = some_left g.K.Naming.names c.args.server.now c.args.change.now c.loop-round.tables c.loop-round.invariant.patched in
    let left = c.loop-round.invariant.left in
    absurd (omega (arith, some, left))
