use Rattle.word_run.proofs.parted.part.Goals as goal

pub returns : goal.returns
returns g c = record {
  member = c.in-Some.member;
  there = c.in-Some.is;
  member_joins = c.in_ok-push.ensures.items;
  taker_joins = c.in_ok-push-2.ensures.items;
  place_joins = c.in_ok-push-3.ensures.items;
}
