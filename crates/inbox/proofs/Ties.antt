-- Ends and inbox that have one number have one queue.
use Rattle.std.proofs.Common.{◌≡◌, ℕ, Option, Some, unwrap_or, sym, ap, ◌∙◌}
use Rattle.inbox.specs.Queues.{QueueId}

pub same_queue : (queue : ℕ → Option QueueId) (k l n : ℕ) (one other : QueueId) → k ≡ n → l ≡ n → queue k ≡ Some one → queue l ≡ Some other → (one.web ≡ other.web) × (one.heap ≡ other.heap)
same_queue queue k l n one other at_k at_l one_is other_is =
    let same : one ≡ other = ap (λ q. unwrap_or q one) (sym one_is ∙ ap queue (at_k ∙ sym at_l) ∙ other_is) in (ap (λ (q : QueueId). q.web) same, ap (λ (q : QueueId). q.heap) same)
