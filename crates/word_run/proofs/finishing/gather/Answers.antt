use Rattle.std.proofs.Common.{length, sym, ap, subst, arith}
use Rattle.word_run.specs.Finished.{AreSettled}
use Rattle.word_run.specs.Loaders.{AreEnds}
use Rattle.word_run.proofs.Parting.{takers_numbered}
use Rattle.word_run.proofs.finishing.gather.Goals as goal

-- each inbox has its two ends
pub settle-requires-clause-many : goal.settle-requires-clause-many
settle-requires-clause-many g c = omega (arith, ap length c.hand_in-handed.ensures.posters, c.requires.many)

pub settle-requires-clause-inboxes : goal.settle-requires-clause-inboxes
settle-requires-clause-inboxes g c = c.requires.inboxes

pub settle-requires-clause-ends : goal.settle-requires-clause-ends
settle-requires-clause-ends g c = subst AreEnds (sym c.hand_in-handed.ensures.posters) c.hand_in-handed.ensures.desk.posted.number

pub settle-requires-clause-takers : goal.settle-requires-clause-takers
settle-requires-clause-takers g c = takers_numbered c.args.seats.items c.in_ok-parted.parted.members.items c.in_ok-parted.parted.takers.items c.in_ok-parted.parted.processes.items c.in_ok-parted.ensures c.requires.takers

-- all came together
pub returns : goal.returns
returns g c = record {
  journal_is = c.hand_in-handed.ensures.journal;
  writer_is = c.hand_in-handed.ensures.writer;
  kept = c.hand_in-handed.ensures.kept;
  desk = c.hand_in-handed.ensures.desk;
  takers = c.in_ok-parted.parted.takers.items;
  parted = c.in_ok-parted.ensures;
  settled = subst (λ xs. AreSettled xs c.in_ok-parted.parted.takers.items) c.hand_in-handed.ensures.posters c.in_ok-settle.ensures;
}
