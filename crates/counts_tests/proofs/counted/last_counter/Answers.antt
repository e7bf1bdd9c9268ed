use Rattle.std.proofs.Common.{◌≡◌, []}
use Rattle.bp_counts.specs.Counters.{CounterHits}
use Rattle.counts_tests.proofs.Tokens.{pop_all}
use Rattle.counts_tests.proofs.counted.last_counter.Goals as goal

-- what holds of all counters holds of the last one and of the rest
pub returns-clause-theirs : goal.returns-clause-theirs
returns-clause-theirs c = (pop_all (λ (counter : CounterHits). counter.table ≡ c.args.counts.now.table) _ _ _ c.pop.ensures c.requires.theirs).0

pub returns-clause-unused : goal.returns-clause-unused
returns-clause-unused c = (pop_all (λ (counter : CounterHits). counter.hits ≡ []) _ _ _ c.pop.ensures c.requires.unused).0

pub returns-clause-table : goal.returns-clause-table
returns-clause-table c = (pop_all (λ (counter : CounterHits). counter.table ≡ c.args.counts.now.table) _ _ _ c.pop.ensures c.requires.theirs).1

pub returns-clause-hits : goal.returns-clause-hits
returns-clause-hits c = (pop_all (λ (counter : CounterHits). counter.hits ≡ []) _ _ _ c.pop.ensures c.requires.unused).1
