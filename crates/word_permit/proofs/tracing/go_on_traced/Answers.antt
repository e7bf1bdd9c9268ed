-- A trace waits, or it is published and goes on behind that.
use Rattle.std.proofs.Common.{subst, ◌∙◌}
use Rattle.staging.specs.declared.stage.Step.{Step}
use Rattle.word_permit.specs.Traced.{SwitchAnswers}
use Rattle.word_permit.proofs.Switched.{answers_switched, decided_still, entered_ends, none_behind, none_decided}
use Rattle.word_permit.proofs.tracing.go_on_traced.Goals as goal

pub unreachable-requires : goal.unreachable-requires
unreachable-requires g c = subst (λ (step : Step). SwitchAnswers c.args.who c.args.waiting.decision c.args.book.now c.switch.new.book step) c.in-AwaitRelease.is c.in-Ok.ensures.ok

pub settle_traced-requires-clause-traces : goal.settle_traced-requires-clause-traces
settle_traced-requires-clause-traces g c =
    let s = subst (λ (step : Step). SwitchAnswers c.args.who c.args.waiting.decision c.args.book.now c.switch.new.book step) c.in-Published.is c.in-Ok.ensures.ok in
    s.holder

pub returns-in-Published-clause-ok : goal.returns-in-Published-clause-ok
returns-in-Published-clause-ok g c =
    let s = subst (λ (step : Step). SwitchAnswers c.args.who c.args.waiting.decision c.args.book.now c.switch.new.book step) c.in-Published.is c.in-Ok.ensures.ok in
    entered_ends c.args.who c.in-Published.generation c.args.book.now c.switch.new.book c.settle_traced.new.book c.settle_traced.result c.requires.tables.book s.entered s.need s.holder c.settle_traced.ensures.none c.settle_traced.ensures.answers

pub returns-in-Published-clause-decision : goal.returns-in-Published-clause-decision
returns-in-Published-clause-decision g c = none_decided c.settle_traced.new.book c.args.waiting.decision c.settle_traced.ensures.none

pub returns-in-Published-clause-forward : goal.returns-in-Published-clause-forward
returns-in-Published-clause-forward g c = none_behind c.settle_traced.new.book c.args.waiting.stage c.settle_traced.ensures.none

pub returns-in-NotYet-clause-ok : goal.returns-in-NotYet-clause-ok
returns-in-NotYet-clause-ok g c =
    let s = subst (λ (step : Step). SwitchAnswers c.args.who c.args.waiting.decision c.args.book.now c.switch.new.book step) c.in-NotYet.is c.in-Ok.ensures.ok in
    answers_switched c.args.who c.args.waiting.decision c.args.book.now c.switch.new.book c.in-NotYet.answer s

pub returns-in-NotYet-clause-decision : goal.returns-in-NotYet-clause-decision
returns-in-NotYet-clause-decision g c =
    let s = subst (λ (step : Step). SwitchAnswers c.args.who c.args.waiting.decision c.args.book.now c.switch.new.book step) c.in-NotYet.is c.in-Ok.ensures.ok in
    decided_still c.args.waiting.decision c.args.book.now c.switch.new.book c.in-NotYet.answer s

pub returns-in-Published-clause-need : goal.returns-in-Published-clause-need
returns-in-Published-clause-need g c = c.settle_traced.ensures.need ∙ c.switch.ensures.need
