use Rattle.std.proofs.Common.{◌≡◌, sym, ap, ◌∙◌, arith}
use Rattle.bp_counts.specs.Counters.{CounterHits, CountTable}
use Rattle.bp_counts.proofs.Steps.{read_is_allowed}
use Rattle.bp_counts.proofs.counts.Counts.read.Goals as goal

-- the step is one that the rule allows
pub load-requires : goal.load-requires
load-requires c =
    let names : c.self.inside.names ≡ c.args.self.now.names = ap (λ (t : CountTable). t.names) c.self.view_is in
    let which = c.requires.which in
    let sized = c.self.invariant.1 in
    let made = c.self.invariant.0 in (
      ap (λ (h : CounterHits). h.table) c.counter.view_is ∙ c.requires.table ∙ sym (ap (λ (t : CountTable). t.table) c.self.view_is),
      omega arith,
      read_is_allowed _ _ _ c.args.which _ (omega arith),
    )
