use Rattle.breakpoints.proofs.ClearedBlocks.{cleared_leaves}
use Rattle.breakpoints.proofs.laws.cleared_blocks_leave_patches.Goals as goal

pub returns : goal.returns
returns c = cleared_leaves
