-- All blocks are free.
use Rattle.literal_areas.proofs.AtFirst.{made_sound, made_owned}
use Rattle.literal_areas.proofs.pools.Pools.new.Goals as goal

pub invariant_of-result : goal.invariant_of-result
invariant_of-result c = made_sound c.in_ok-big.big c.in_ok-small.small c.in_ok-big.ensures c.in_ok-small.ensures

pub returns-clause-owned : goal.returns-clause-owned
returns-clause-owned c = made_owned c.in_ok-big.big c.in_ok-small.small c.in_ok-big.ensures c.in_ok-small.ensures
