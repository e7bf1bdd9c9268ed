use Rattle.std.proofs.Common.{◌≡◌, length, drop}
use Rattle.std.specs.Vec.Iter.{into_iter_items}
use Rattle.word_run.specs.Beginning.{AreOpened}
use Rattle.word_run.proofs.beginning.open_seats.Given as goal

-- the first members have their stations, and the other inboxes are left
abbrev pub invariant-loop-member : goal.invariant-loop-member
invariant-loop-member g l = record {
  opened : AreOpened l.yielded l.stations.inboxes.items l.stations.posters.items l.stations.seats.items;
  left : into_iter_items l.openings ≡ drop (length l.yielded) l.fn.openings.items;
}
