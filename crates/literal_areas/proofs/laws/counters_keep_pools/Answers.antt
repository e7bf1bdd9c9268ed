-- The pools stay those of the writer.
use Rattle.literal_areas.proofs.Listed.{owned_counted}
use Rattle.literal_areas.proofs.laws.counters_keep_pools.Goals as goal

pub returns : goal.returns
returns c = owned_counted
