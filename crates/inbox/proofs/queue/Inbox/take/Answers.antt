use Rattle.inbox.proofs.Dealing.{takes, reaches}
use Rattle.inbox.proofs.queue.Inbox.take.Goals as goal

pub pop_as-requires-clause-rule : goal.pop_as-requires-clause-rule
pop_as-requires-clause-rule g c = (takes _ _ c.taker.invariant.3, reaches _ _ c.taker.invariant.3)
