use Rattle.std.proofs.Common.{sym}
use Rattle.legality.proofs.Equivalences.{through, of_equal, never, always}
use Rattle.legality.proofs.RisingNumbers.{RisesFrom, generation_of_shot, shots_rise_from, rises_on, falls_at, rises_end}
use Rattle.legality.proofs.shape.snapshots.are_rising.Goals as goal

-- from 0 on
pub loop-shot-init : goal.loop-shot-init
loop-shot-init c = through (shots_rise_from c.args.shots.now) (of_equal (RisesFrom generation_of_shot 0) _ _ (sym c.as_slice-shot-items.ensures))

-- a generation that is older than the last
pub returns-then-shot-last : goal.returns-then-shot-last
returns-then-shot-last c = never (falls_at generation_of_shot _ _ _ _ c.shot-item.is c.loop-shot-test.true c.if-shot-last.true c.loop-shot.invariant)

-- one that is not
pub loop-shot-preserved : goal.loop-shot-preserved
loop-shot-preserved c = rises_on generation_of_shot _ _ _ _ c.shot-item.is c.loop-shot-test.true c.if-shot-last.false c.loop-shot.invariant

-- nothing is left
pub returns : goal.returns
returns c = always (c.loop-shot.invariant.1 (rises_end generation_of_shot _ _ _ c.loop-shot-test.false))
