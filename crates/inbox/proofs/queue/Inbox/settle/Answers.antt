use Rattle.std.proofs.Common.{ap, ◌∙◌}
use Rattle.inbox.proofs.Dealing.{leaves, settled, settles}
use Rattle.inbox.proofs.Ties.{same_queue}
use Rattle.inbox.proofs.queue.Inbox.settle.Goals as goal

pub absorb-requires-clause-queue : goal.absorb-requires-clause-queue
absorb-requires-clause-queue g c = (
  (same_queue g.N.InboxNames.queue _ _ _ _ _ (ap (λ p. p.number) c.poster.view_is ∙ c.requires.poster) c.self.view_is c.poster.invariant.0 c.self.invariant, c.poster.invariant.1, c.poster.invariant.2),
  (same_queue g.N.InboxNames.queue _ _ _ _ _ (ap (λ t. t.number) c.taker.view_is ∙ c.requires.taker) c.self.view_is c.taker.invariant.0 c.self.invariant, c.taker.invariant.1, c.taker.invariant.2),
)

pub absorb-requires-clause-rule : goal.absorb-requires-clause-rule
absorb-requires-clause-rule g c = settles _ _ _ _ c.poster.invariant.3 c.taker.invariant.3

pub len_as-requires-clause-rule : goal.len_as-requires-clause-rule
len_as-requires-clause-rule g c = leaves _ _ (ap (λ d. d.posts) c.absorb.ensures.rule) (ap (λ d. d.takes) c.absorb.ensures.rule)

pub returns : goal.returns
returns g c = settled _ _ _ _ c.args.poster c.args.taker _ c.absorb.ensures.rule (ap (λ p. p.put) c.poster.view_is) (ap (λ t. t.taken) c.taker.view_is) c.len_as.ensures.rule
