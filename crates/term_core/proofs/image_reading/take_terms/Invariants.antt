-- What was taken, and what is left.
use Rattle.std.proofs.Common.{map}
use Rattle.term_core.specs.Plain.{plain}
use Rattle.term_core.proofs.TakenTerms.{IsTaken}
use Rattle.term_core.proofs.image_reading.take_terms.Given as goal

-- of the terms before
abbrev pub invariant-loop : goal.invariant-loop
invariant-loop l = IsTaken (map plain l.fn.terms) l.row (map plain l.terms) l.counter
