use Rattle.std.proofs.Common.{ap, ◌∙◌}
use Rattle.bp_counts.specs.Counters.{CounterHits}
use Rattle.bp_counts.proofs.Joins.{take_in_is_allowed}
use Rattle.bp_counts.proofs.closing.take_in.Goals as goal

-- the join is one that the rule allows
pub join_seat-requires : goal.join_seat-requires
join_seat-requires c = (
  c.requires.token.of_table,
  ap (λ (h : CounterHits). h.table) c.counter.view_is ∙ c.requires.counter,
  c.counter.invariant.1,
  c.requires.words,
  take_in_is_allowed _ _ _ _ _,
)
