use Rattle.std.proofs.Common.{◌≡◌, ◌≤◌}
use Rattle.std.specs.Vec.{vec_len, vec_capacity}
use Rattle.bp_counts.specs.Counters.{AreTotals}
use Rattle.bp_counts.proofs.closing.totals.Given as goal

-- so many names are told, and there is room for all
abbrev pub invariant-loop-which : goal.invariant-loop-which
invariant-loop-which l = record {
  table : l.all.table_id ≡ l.initial.all.table_id;
  view : l.all.me ≡ l.initial.all.me;
  told : AreTotals l.initial.all.me.0.hits l.which l.totals.items;
  room : l.names ≤ vec_capacity l.totals;
  many : vec_len l.totals ≡ l.which;
}
