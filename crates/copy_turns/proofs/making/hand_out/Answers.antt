use Rattle.copy_turns.proofs.Joins.{hand_out_is_allowed}
use Rattle.copy_turns.proofs.making.hand_out.Goals as goal

-- the split is one that the rule allows
pub split_seat-seat-requires : goal.split_seat-seat-requires
split_seat-seat-requires c = (c.requires.token.of_table, c.requires.words, hand_out_is_allowed _ _ _ c.requires.idle)
