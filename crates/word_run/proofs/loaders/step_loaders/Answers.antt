use Rattle.std.proofs.Common.{◌≡◌, Bool, true, length}
use Rattle.word_run.proofs.Answering.{none_asked, one_asked}
use Rattle.word_run.proofs.RoundSeats.{if_at}
use Rattle.word_run.proofs.loaders.step_loaders.Goals as goal

-- none was asked yet
pub loop-who-init : goal.loop-who-init
loop-who-init g c = none_asked _ _ _

-- one more was
pub loop-who-preserved : goal.loop-who-preserved
loop-who-preserved g c =
    one_asked g.E.RoundName.answered c.args.number (length c.args.inboxes.now) c.loop-who.who c.loop-who.over c.in_ok-over.field-0 c.loop-who.invariant
    (λ own. if_at (g.E.RoundName.answered c.loop-who.who) c.step_own.result c.in_ok-over.field-0 c.in_ok-over.was (c.step_own.ensures.own own))
    (λ other. if_at (λ (over : Bool). over ≡ true) c.step_own.result c.in_ok-over.field-0 c.in_ok-over.was (c.step_own.ensures.other other))
