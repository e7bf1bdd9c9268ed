-- The entry that is taken out is the newest one.
use Rattle.word_permit.proofs.Settling.{waits_at}
use Rattle.word_permit.proofs.going_on.wait_on.Goals as goal

pub returns : goal.returns
returns c = waits_at c.args.book.now c.args.change c.args.stage c.pop.new.self c.in-Some.entry c.decision_of-decision.result c.in-Some.ensures c.decision_of-decision.ensures
