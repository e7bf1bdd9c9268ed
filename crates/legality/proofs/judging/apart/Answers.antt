use Rattle.std.proofs.Common.{false, subst}
use Rattle.legality.specs.Breaches.{IsJudged}
use Rattle.legality.proofs.Judged.{refuted_linger, refuted_unwatched}
use Rattle.legality.proofs.judging.apart.Goals as goal

pub returns-in-None : goal.returns-in-None
returns-in-None c = refuted_linger c.args.script.now c.args.log.now c.args.breach.clause c.requires.broken (subst (IsJudged false c.args.script.now c.args.log.now) c.in-None.is c.in_ok-judge.ensures)

pub returns-in-Some : goal.returns-in-Some
returns-in-Some c = refuted_unwatched c.args.script.now c.args.log.now c.in-Some.other.clause (subst (IsJudged false c.args.script.now c.args.log.now) c.in-Some.is c.in_ok-judge.ensures)
