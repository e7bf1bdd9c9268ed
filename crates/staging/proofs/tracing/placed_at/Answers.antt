-- The function is the same, in the block of its instance.
use Rattle.std.proofs.Common.{ℕ, ap}
use Rattle.staging.proofs.Coming.{entry_in}
use Rattle.staging.proofs.tracing.placed_at.Goals as goal

pub returns-clause-same : goal.returns-clause-same
returns-clause-same c = ap (λ (n : ℕ). entry_in n c.args.at.function) c.in-Some.ensures.1

pub returns-clause-live : goal.returns-clause-live
returns-clause-live c = c.in-Some.ensures.0
