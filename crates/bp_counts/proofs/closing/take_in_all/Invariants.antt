-- Those that are left are to come in to what the others left.
use Rattle.std.proofs.Common.{◌≡◌, ℕ, ◌+◌, ◌*◌, length, sum_by, All}
use Rattle.bp_counts.specs.declared.counter.TheConstants.{MOST_HITS}
use Rattle.bp_counts.specs.Seats.{IsSameTallySeat}
use Rattle.bp_counts.specs.Counters.{CounterHits, hits_in}
use Rattle.bp_counts.specs.Tallies.{share, hits_of}
use Rattle.bp_counts.proofs.closing.take_in_all.Given as goal

abbrev pub invariant-counters : goal.invariant-counters
invariant-counters l = record {
  token : IsSameTallySeat l.initial.all l.all;
  theirs : All (λ (counter : CounterHits). counter.table ≡ l.table.table_id) l.counters;
  hits : (which : ℕ) → hits_of which l.all.me.0.hits + sum_by (hits_in which) l.counters ≡ hits_of which l.initial.all.me.0.hits + sum_by (hits_in which) l.initial.counters;
  share : share l.all.me.0 + length l.counters * MOST_HITS ≡ share l.initial.all.me.0 + length l.initial.counters * MOST_HITS;
}

abbrev pub decreases-counters : goal.decreases-counters
decreases-counters l = length l.counters
