use Rattle.std.proofs.Common.{ap, ◌∙◌}
use Rattle.inbox.proofs.Dealing.{gives_receipt, hears, tells}
use Rattle.inbox.proofs.queue.Inbox.tell.Goals as goal

pub another-news-requires-clause-rule : goal.another-news-requires-clause-rule
another-news-requires-clause-rule g c = tells _ _ c.poster.invariant.3

pub absorb-requires-clause-rule : goal.absorb-requires-clause-rule
absorb-requires-clause-rule g c = hears _ _ _ _

pub another-receipt-requires-clause-rule : goal.another-receipt-requires-clause-rule
another-receipt-requires-clause-rule g c = gives_receipt _ _ (ap (λ d. d.takes) c.absorb.ensures.rule ∙ c.taker.invariant.3)

pub absorb-requires-2-clause-rule : goal.absorb-requires-2-clause-rule
absorb-requires-2-clause-rule g c = hears _ _ _ _
