-- The modules that are left can become current, and lead to what all of them lead to.
use Rattle.std.proofs.Common.{◌≡◌, ◌≤◌, ◌+◌, length, drop}
use Rattle.write_permit.specs.Agreement.{CanPromote, all_promoted}
use Rattle.write_permit.proofs.following.promote_all.Given as goal

abbrev pub invariant-loop-to : goal.invariant-loop-to
invariant-loop-to l = record {
  can : CanPromote l.table.instances l.server (drop l.to-index l.refs);
  left : all_promoted l.table.instances l.server (drop l.to-index l.refs) ≡ all_promoted l.initial.table.instances l.server l.refs;
  room : length l.refs ≤ l.table.room + l.to-index;
}
