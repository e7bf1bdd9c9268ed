-- The pools stay those of the writer.
use Rattle.literal_areas.proofs.Stores.{owned_stored}
use Rattle.literal_areas.proofs.laws.stores_keep_pools.Goals as goal

pub returns : goal.returns
returns c = owned_stored
