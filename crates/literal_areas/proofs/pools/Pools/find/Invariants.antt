-- No block before this one has the area.
use Rattle.literal_areas.proofs.Finding.{NoneBelow}
use Rattle.literal_areas.proofs.pools.Pools.find.Given as goal

abbrev pub invariant-loop-block : goal.invariant-loop-block
invariant-loop-block l = NoneBelow l.fn.self l.fn.serial l.block
