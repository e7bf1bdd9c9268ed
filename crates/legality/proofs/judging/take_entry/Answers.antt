use Rattle.std.proofs.Common.{sym}
use Rattle.std.proofs.lemmas.Option.{none-some}
use Rattle.legality.specs.Breaches.{IsBroken}
use Rattle.legality.proofs.Answers.{if_some_at}
use Rattle.legality.proofs.judging.take_entry.Goals as goal

pub returns-in-Some-clause-on : goal.returns-in-Some-clause-on
returns-in-Some-clause-on c = λ none. absurd (none-some _ (sym none))

pub returns-in-Some-clause-off : goal.returns-in-Some-clause-off
returns-in-Some-clause-off c = if_some_at _ (IsBroken c.args.known.now.watched c.args.script.now c.args.log.now) c.in-Some.clause c.in-Some.is c.in_ok-clause.ensures.off
