-- The patch is over, or has one phase left, or waits.
use Rattle.std.proofs.Common.{length, ap, subst, ◌∙◌, arith}
use Rattle.progress_words.specs.Tokens.{written_by}
use Rattle.breakpoints.specs.declared.patch.PatchStep.{PatchStep}
use Rattle.staging.specs.Traced.{SettleAnswers}
use Rattle.staging.proofs.Known.{known_on}
use Rattle.staging.proofs.PatchNeeds.{need_on}
use Rattle.staging.proofs.Settled.{rest_from, waiting_from}
use Rattle.staging.proofs.settling.settle.Goals as goal

pub returns-in-Finished-clause-rest : goal.returns-in-Finished-clause-rest
returns-in-Finished-clause-rest g c = subst (λ (step : PatchStep). SettleAnswers g.K.Naming.names c.args.tables.now c.settle_once.new.tables step) c.in-Finished.is c.in-Ok.ensures.answers

pub unreachable-requires : goal.unreachable-requires
unreachable-requires g c = subst (λ (step : PatchStep). SettleAnswers g.K.Naming.names c.args.tables.now c.settle_once.new.tables step) c.in-Published.is c.in-Ok.ensures.answers

pub settle_last-requires-clause-settling : goal.settle_last-requires-clause-settling
settle_last-requires-clause-settling g c =
    let said = subst (λ (step : PatchStep). SettleAnswers g.K.Naming.names c.args.tables.now c.settle_once.new.tables step) c.in-Moved.is c.in-Ok.ensures.answers in
    (c.requires.settling.0, said.0 c.requires.settling.0 c.requires.settling.1)

pub settle_last-requires-clause-last : goal.settle_last-requires-clause-last
settle_last-requires-clause-last g c =
    let said = subst (λ (step : PatchStep). SettleAnswers g.K.Naming.names c.args.tables.now c.settle_once.new.tables step) c.in-Moved.is c.in-Ok.ensures.answers in
    said.1

pub settle_last-requires-clause-room : goal.settle_last-requires-clause-room
settle_last-requires-clause-room g c = let same = ap length c.settle_once.ensures.published in let room = c.requires.room in omega (arith, same, room)

pub returns-in-Moved-clause-rest : goal.returns-in-Moved-clause-rest
returns-in-Moved-clause-rest g c =
    let said = subst (λ (step : PatchStep). SettleAnswers g.K.Naming.names c.args.tables.now c.settle_once.new.tables step) c.in-Moved.is c.in-Ok.ensures.answers in
    rest_from g.K.Naming.names c.args.tables.now c.settle_once.new.tables c.settle_last.new.tables c.settle_last.result said.0 c.settle_last.ensures.rest

pub returns-in-Moved-clause-waits : goal.returns-in-Moved-clause-waits
returns-in-Moved-clause-waits g c =
    let said = subst (λ (step : PatchStep). SettleAnswers g.K.Naming.names c.args.tables.now c.settle_once.new.tables step) c.in-Moved.is c.in-Ok.ensures.answers in
    waiting_from g.K.Naming.names c.args.tables.now c.settle_once.new.tables c.settle_last.new.tables c.settle_last.result said.0 c.settle_once.ensures.need (need_on c.args.tables.now c.settle_once.new.tables c.settle_last.new.tables c.settle_once.ensures.need c.settle_last.ensures.need) c.settle_last.ensures.waits

pub returns-in-Moved-clause-need : goal.returns-in-Moved-clause-need
returns-in-Moved-clause-need g c = need_on c.args.tables.now c.settle_once.new.tables c.settle_last.new.tables c.settle_once.ensures.need c.settle_last.ensures.need

pub returns-in-Moved-clause-published : goal.returns-in-Moved-clause-published
returns-in-Moved-clause-published g c = c.settle_last.ensures.published ∙ c.settle_once.ensures.published

pub returns-in-Moved-clause-exports : goal.returns-in-Moved-clause-exports
returns-in-Moved-clause-exports g c = c.settle_last.ensures.exports ∙ c.settle_once.ensures.exports

pub returns-in-Moved-clause-known : goal.returns-in-Moved-clause-known
returns-in-Moved-clause-known g c = known_on (written_by c.args.tables.now.writer) (written_by c.settle_once.new.tables.writer) (written_by c.settle_last.new.tables.writer) c.settle_once.ensures.known c.settle_last.ensures.known
