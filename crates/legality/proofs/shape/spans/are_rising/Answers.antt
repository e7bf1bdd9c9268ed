use Rattle.std.proofs.Common.{sym}
use Rattle.legality.proofs.Equivalences.{through, of_equal, never, always}
use Rattle.legality.proofs.RisingNumbers.{RisesFrom, generation_of_span, spans_rise_from, rises_on, falls_at, rises_end}
use Rattle.legality.proofs.shape.spans.are_rising.Goals as goal

-- from 0 on
pub loop-span-init : goal.loop-span-init
loop-span-init c = through (spans_rise_from c.args.process.now.spans) (of_equal (RisesFrom generation_of_span 0) _ _ (sym c.as_slice-span-items.ensures))

-- a generation that is older than the last
pub returns-then-span-last : goal.returns-then-span-last
returns-then-span-last c = never (falls_at generation_of_span _ _ _ _ c.span-item.is c.loop-span-test.true c.if-span-last.true c.loop-span.invariant)

-- one that is not
pub loop-span-preserved : goal.loop-span-preserved
loop-span-preserved c = rises_on generation_of_span _ _ _ _ c.span-item.is c.loop-span-test.true c.if-span-last.false c.loop-span.invariant

-- nothing is left
pub returns : goal.returns
returns c = always (c.loop-span.invariant.1 (rises_end generation_of_span _ _ _ c.loop-span-test.false))
