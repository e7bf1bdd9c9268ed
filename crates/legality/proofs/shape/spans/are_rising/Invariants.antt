use Rattle.std.proofs.Common.{◌↔◌, drop}
use Rattle.legality.specs.RisingSpans.{AreRisingSpans}
use Rattle.legality.proofs.RisingNumbers.{RisesFrom, generation_of_span}
use Rattle.legality.proofs.shape.spans.are_rising.Given as goal

-- the spans rise where those that are left rise from the last generation on
abbrev pub invariant-loop-span : goal.invariant-loop-span
invariant-loop-span l = AreRisingSpans l.process.spans ↔ RisesFrom generation_of_span l.last (drop l.span-index l.span-items)
