use Rattle.outside.proofs.Taken.{left_splits}
use Rattle.outside.proofs.memory.MemSourceSource.read.Goals as goal

-- what was left is what was copied and what is left now
pub returns-clause-taken : goal.returns-clause-taken
returns-clause-taken c = left_splits _ _ _ _ _ c.as_slice.ensures c.copy_piece-count.ensures.copied
