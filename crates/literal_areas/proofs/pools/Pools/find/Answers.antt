-- Where no block has the area, none is found.
use Rattle.std.proofs.Common.{arith}
use Rattle.literal_areas.proofs.Finding.{none_first}
use Rattle.literal_areas.proofs.pools.Pools.find.Goals as goal

pub loop-block-init : goal.loop-block-init
loop-block-init c = none_first c.args.self.now c.args.serial

pub returns-clause-none : goal.returns-clause-none
returns-clause-none c = λ _ b few e. c.loop-block.invariant.none b (omega (arith, few, c.loop-block-test.false)) e
