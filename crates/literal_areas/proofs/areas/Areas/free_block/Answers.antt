-- The block found is a free one of the pool, and where none is found none is free.
use Rattle.literal_areas.proofs.FreeBlocks.{found_block, no_block}
use Rattle.literal_areas.proofs.areas.Areas.free_block.Goals as goal

pub returns-in_default-clause-none : goal.returns-in_default-clause-none
returns-in_default-clause-none c = λ e. no_block c.args.pool c.args.self.now _ _ c.blocks-2.ensures c.first_free.ensures c.in_default.is

pub returns-clause-found : goal.returns-clause-found
returns-clause-found c = found_block c.args.pool c.args.self.now _ _ c.in-Some.place _ c.requires.sizes c.blocks-2.ensures c.first_free.ensures c.in-Some.is c.first_block.ensures
