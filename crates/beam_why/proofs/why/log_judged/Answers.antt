-- The answer to a log is that of its judgement.
use Rattle.legality.specs.declared.breach.Breach.{Breach}
use Rattle.legality.specs.Breaches.{ClauseHolds}
use Rattle.legality.proofs.Answers.{if_some_at}
use Rattle.outside.proofs.ReadParts.{on_ok}
use Rattle.beam_why.specs.Why.{LogVerdict, lawful, lawful_text}
use Rattle.beam_why.proofs.Verdicts.{broken_is, by_line}
use Rattle.beam_why.proofs.why.log_judged.Goals as goal

pub returns-in-None : goal.returns-in-None
returns-in-None c =
    on_ok _ _ c.line_answer.result (λ a h. by_line (LogVerdict c.args.script.now c.args.log.now) 0 lawful_text a.status a.log a.text (lawful (c.in_ok-first_breach.ensures.lawful.0 c.in-None.is)) h) c.line_answer.ensures

pub returns-in-Some : goal.returns-in-Some
returns-in-Some c =
    on_ok _ _ c.broken_answer.result
    (λ a h. broken_is c.args.script.now c.args.log.now c.in-Some.breach.clause a
    (if_some_at _ (λ (b : Breach). ClauseHolds b.clause c.args.script.now c.args.log.now → ⊥) c.in-Some.breach c.in-Some.is c.in_ok-first_breach.ensures.broken) h) c.broken_answer.ensures
