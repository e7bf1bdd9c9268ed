use Rattle.std.proofs.Common.{◌≡◌, ◌≤◌, ◌-◌, ◌*◌, All}
use Rattle.std.specs.Vec.{vec_len, vec_capacity}
use Rattle.bp_counts.specs.declared.counter.TheConstants.{MOST_HITS}
use Rattle.bp_counts.specs.Seats.{IsSameTallySeat}
use Rattle.bp_counts.specs.Counters.{CounterHits, unused}
use Rattle.bp_counts.specs.Tallies.{unused_tally}
use Rattle.bp_counts.proofs.making.hand_out_all.Given as goal

-- so many are handed out, and there is room for all
abbrev pub invariant-loop-number : goal.invariant-loop-number
invariant-loop-number l = record {
  seat : IsSameTallySeat l.initial.seat l.seat;
  view : l.seat.me.0 ≡ unused_tally ((l.counters - l._number) * MOST_HITS);
  unused : All (λ (counter : CounterHits). counter ≡ unused l.table.table_id) l.tokens.items;
  room : l.counters ≤ vec_capacity l.tokens;
  many : vec_len l.tokens ≡ l._number;
}
