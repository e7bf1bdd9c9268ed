use Rattle.inbox.proofs.Dealing.{begins, parts}
use Rattle.inbox.proofs.opening.Opening.new.Goals as goal

pub with_rule-requires : goal.with_rule-requires
with_rule-requires g c = begins

pub another-taker-requires-clause-rule : goal.another-taker-requires-clause-rule
another-taker-requires-clause-rule g c = parts _ _ c.in_ok-ruled.ensures.2
