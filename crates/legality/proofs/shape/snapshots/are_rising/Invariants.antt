use Rattle.std.proofs.Common.{◌↔◌, drop}
use Rattle.run_log.specs.Legal.{AreRising}
use Rattle.legality.proofs.RisingNumbers.{RisesFrom, generation_of_shot}
use Rattle.legality.proofs.shape.snapshots.are_rising.Given as goal

-- the snapshots rise where those that are left rise from the last generation on
abbrev pub invariant-loop-shot : goal.invariant-loop-shot
invariant-loop-shot l = AreRising l.shots ↔ RisesFrom generation_of_shot l.last (drop l.shot-index l.shot-items)
