use Rattle.std.proofs.Common.{true, subst, sym, ◌∙◌}
use Rattle.legality.specs.Breaches.{IsJudged}
use Rattle.legality.proofs.Judged.{none_lawful, refuted_other, some_unlawful}
use Rattle.legality.proofs.judging.first_breach.Goals as goal

pub returns-in_default-clause-lawful : goal.returns-in_default-clause-lawful
returns-in_default-clause-lawful c = none_lawful c.args.script.now c.args.log.now (subst (IsJudged true c.args.script.now c.args.log.now) c.in_default.is c.in_ok-breach.ensures)

pub returns-then-not-is_of_linger-clause-lawful : goal.returns-then-not-is_of_linger-clause-lawful
returns-then-not-is_of_linger-clause-lawful c =
    some_unlawful c.args.script.now c.args.log.now c.in-Some.breach
    (refuted_other c.args.script.now c.args.log.now c.in-Some.breach.clause (sym c.is_of_linger.ensures ∙ c.if-not-is_of_linger.true) (subst (IsJudged true c.args.script.now c.args.log.now) c.in-Some.is c.in_ok-breach.ensures))

pub returns-then-not-is_of_linger-clause-broken : goal.returns-then-not-is_of_linger-clause-broken
returns-then-not-is_of_linger-clause-broken c =
    refuted_other c.args.script.now c.args.log.now c.in-Some.breach.clause (sym c.is_of_linger.ensures ∙ c.if-not-is_of_linger.true) (subst (IsJudged true c.args.script.now c.args.log.now) c.in-Some.is c.in_ok-breach.ensures)

pub apart-requires-clause-broken : goal.apart-requires-clause-broken
apart-requires-clause-broken c = subst (IsJudged true c.args.script.now c.args.log.now) c.in-Some.is c.in_ok-breach.ensures

pub returns-clause-lawful : goal.returns-clause-lawful
returns-clause-lawful c = some_unlawful c.args.script.now c.args.log.now c.in_ok-apart.field-0 c.in_ok-apart.ensures

pub returns-clause-broken : goal.returns-clause-broken
returns-clause-broken c = c.in_ok-apart.ensures
