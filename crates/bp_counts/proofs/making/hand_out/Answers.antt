use Rattle.bp_counts.proofs.Joins.{hand_out_is_allowed}
use Rattle.bp_counts.proofs.making.hand_out.Goals as goal

-- the split is one that the rule allows
pub split_seat-seat-requires : goal.split_seat-seat-requires
split_seat-seat-requires c = (c.requires.token.of_table, c.requires.words, hand_out_is_allowed _ _ _ c.requires.left)
