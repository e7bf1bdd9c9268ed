use Rattle.counts_tests.proofs.Tokens.{two_counters}
use Rattle.counts_tests.proofs.counted.close_both.Goals as goal

-- both counters are there
pub close-requires : goal.close-requires
close-requires c = two_counters _ _ _ _ _ _ c.new-counters.ensures c.in_ok-push.ensures.ok c.in_ok-push-2.ensures.ok c.requires.many c.requires.first c.requires.second
