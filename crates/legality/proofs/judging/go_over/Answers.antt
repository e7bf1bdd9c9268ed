use Rattle.legality.specs.Breaches.{IsBroken}
use Rattle.legality.specs.declared.breach.Breach.{Breach}
use Rattle.legality.proofs.Answers.{if_some_at}
use Rattle.legality.proofs.judging.go_over.Goals as goal

pub returns-in-Some : goal.returns-in-Some
returns-in-Some c = if_some_at _ (λ (b : Breach). IsBroken c.args.known.now.watched c.args.script.now c.args.log.now b.clause) c.in-Some.breach c.in-Some.is c.in_ok-breach.ensures.off

pub take_journal-requires-clause-swept : goal.take_journal-requires-clause-swept
take_journal-requires-clause-swept c = c.in_ok-breach.ensures.on c.in_default.is
