use Rattle.legality.specs.Breaches.{IsBroken}
use Rattle.legality.specs.declared.breach.Breach.{Breach}
use Rattle.legality.proofs.Answers.{if_some_at}
use Rattle.legality.proofs.Ends.{swept_over}
use Rattle.legality.proofs.Judged.{left_judged}
use Rattle.legality.proofs.judging.take_journal.Goals as goal

pub returns-in-Some : goal.returns-in-Some
returns-in-Some c = if_some_at _ (λ (b : Breach). IsBroken c.args.known.now.watched c.args.script.now c.args.log.now b.clause) c.in-Some.breach c.in-Some.is c.in_ok-breach.ensures.off

pub loop-place-preserved : goal.loop-place-preserved
loop-place-preserved c = c.in_ok-breach.ensures.on c.in_default.is

-- after the last entry
pub returns : goal.returns
returns c =
    let swept =
    swept_over c.args.script.now c.args.log.now c.args.known.now.watched c.loop-place.place c.len-place-end.result c.loop-place.sweep c.loop-place.invariant c.len-place-end.ensures c.loop-place-test.false in
    left_judged c.args.script.now c.args.log.now c.args.known.now.watched c.loop-place.sweep swept c.requires.shaped c.left_over.result c.left_over.ensures.none c.left_over.ensures.some
