use Rattle.counts_tests.proofs.Tokens.{three_copiers_of}
use Rattle.counts_tests.proofs.copied.close_three.Goals as goal

-- all three copiers are there
pub close-requires : goal.close-requires
close-requires c =
    three_copiers_of _ _ _ _ _ _ _ _ c.new-copiers.ensures c.in_ok-push.ensures.ok c.in_ok-push-2.ensures.ok c.in_ok-push-3.ensures.ok c.requires.many c.requires.first c.requires.second c.requires.third
