-- The pools stay those of the writer.
use Rattle.literal_areas.proofs.Listed.{owned_looked}
use Rattle.literal_areas.proofs.laws.looks_keep_pools.Goals as goal

pub returns : goal.returns
returns c = owned_looked
