-- Each instance has a big block.
use Rattle.staging.proofs.PlaceCalls.{pool_big, pool_small}
use Rattle.staging.proofs.placing.incoming_pool.Goals as goal

pub returns-in-BringIn : goal.returns-in-BringIn
returns-in-BringIn c = pool_big c.args.change.now _ _ _ _ c.in-BringIn.is

pub returns-in-HoldArea : goal.returns-in-HoldArea
returns-in-HoldArea c = pool_small c.args.change.now _ _ _ _ _ _ _ c.in-HoldArea.is
