use Rattle.std.proofs.lemmas.Result.{IfOk-weaker}
use Rattle.legality.specs.Breaches.{ClauseHolds}
use Rattle.legality.proofs.Answers.{if_some_at}
use Rattle.legality.proofs.Judged.{judged_so}
use Rattle.legality.proofs.Texts.{arities, few}
use Rattle.legality.proofs.judging.judge.Goals as goal

pub returns-in-Some : goal.returns-in-Some
returns-in-Some c = λ others. if_some_at c.broken_shape.result (λ clause. ClauseHolds clause c.args.script.now c.args.log.now → ⊥) c.in-Some.clause c.in-Some.is c.broken_shape.ensures.broken

pub begin-requires-clause-arity : goal.begin-requires-clause-arity
begin-requires-clause-arity c = arities c.args.script.now c.requires c.args.log.now.processes (c.broken_shape.ensures.shaped c.in_default.is).complete.processes

pub begin-requires-clause-few : goal.begin-requires-clause-few
begin-requires-clause-few c = few c.args.script.now c.requires c.args.log.now.processes (c.broken_shape.ensures.shaped c.in_default.is).complete.processes

pub go_over-requires-clause-shaped : goal.go_over-requires-clause-shaped
go_over-requires-clause-shaped c = c.broken_shape.ensures.shaped c.in_default.is

pub go_over-requires-clause-made : goal.go_over-requires-clause-made
go_over-requires-clause-made c = c.in_ok-sweep.ensures c.args.script.now c.in_ok-known.known.watched

pub returns : goal.returns
returns c =
    IfOk-weaker c.go_over.result _ _ (λ breach judged. judged_so c.args.script.now c.args.log.now c.args.watched c.in_ok-known.known.watched breach c.in_ok-known.ensures.watched judged) c.go_over.ensures
