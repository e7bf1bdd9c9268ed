-- The writer has loaded the counter once more.
use Rattle.grace_bench.proofs.Waiting.{asked_now}
use Rattle.grace_bench.proofs.waits.ask.Goals as goal

pub returns-clause-asked : goal.returns-clause-asked
returns-clause-asked c = asked_now _ _ c.reached.ensures.loaded
