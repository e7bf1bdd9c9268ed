use Rattle.std.proofs.Common.{◌≡◌, ℕ, List, length, sym, ap, ◌∙◌, arith}
use Rattle.bp_counts.specs.Counters.{CounterHits, CountTable}
use Rattle.bp_counts.proofs.Steps.{hit_is_allowed}
use Rattle.bp_counts.proofs.counts.Counts.hit.Goals as goal

-- the step is one that the rule allows
pub fetch_add-requires : goal.fetch_add-requires
fetch_add-requires c =
    let same : c.counter.inside.seat.me.0.hits ≡ c.args.counter.now.hits = ap (λ (h : CounterHits). h.hits) c.counter.view_is in
    let many : length c.counter.inside.seat.me.0.hits ≡ length c.args.counter.now.hits = ap (λ (hs : List ℕ). length hs) same in
    let few = c.requires.few in
    let share = c.counter.invariant.0 in
    let names : c.self.inside.names ≡ c.args.self.now.names = ap (λ (t : CountTable). t.names) c.self.view_is in
    let which = c.requires.which in
    let sized = c.self.invariant.1 in
    let made = c.self.invariant.0 in (
      ap (λ (h : CounterHits). h.table) c.counter.view_is ∙ c.requires.table ∙ sym (ap (λ (t : CountTable). t.table) c.self.view_is),
      omega arith,
      hit_is_allowed _ _ _ c.args.which _ (omega arith) (omega arith),
    )
