-- New pools have none taken.
use Rattle.area_tests.proofs.Taking.{none_taken}
use Rattle.area_tests.proofs.several.take_all.Goals as goal

pub loop-at-init : goal.loop-at-init
loop-at-init c = (none_taken c.args.pools.now c.requires.opening, λ w owned. owned)
