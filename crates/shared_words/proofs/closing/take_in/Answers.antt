use Rattle.shared_words.proofs.MemberJoins.{take_in_is_allowed}
use Rattle.shared_words.proofs.closing.take_in.Goals as goal

-- the join is one that the rule allows
pub join_seat-requires : goal.join_seat-requires
join_seat-requires g c = (
  c.requires.token.same_table,
  c.requires.seat.same_table,
  c.requires.seat.no_slots,
  c.requires.words,
  take_in_is_allowed g.N.Served.served _ _ _ _ _ c.requires.writer c.requires.member,
)
