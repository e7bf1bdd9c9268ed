use Rattle.std.proofs.Common.{arith}
use Rattle.std.proofs.lemmas.Grind.{common_steps}
use Rattle.outside.proofs.Taken.{TakesUpTo-more}
use Rattle.outside.proofs.transfer.read_whole.Goals as goal

-- the text so far is within the limit, and a failed piece takes no more than its room
pub returns-in_err-read_piece-clause-stops : goal.returns-in_err-read_piece-clause-stops
returns-in_err-read_piece-clause-stops g c =
    TakesUpTo-more _ _ _ _ _ _ c.pieces.invariant.taken c.in_err-read_piece.ensures.lost (grind (arith, common_steps))
