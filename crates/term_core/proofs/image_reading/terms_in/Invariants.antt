-- The terms of the words that were passed, which are the last.
use Rattle.std.proofs.Common.{map}
use Rattle.term_core.specs.Plain.{plain}
use Rattle.term_core.proofs.TakenTerms.{IsPassed}
use Rattle.term_core.proofs.image_reading.terms_in.Given as goal

-- the others are left
abbrev pub invariant-loop-word : goal.invariant-loop-word
invariant-loop-word l = IsPassed l.words l.word-iterator.iter.rest.now (map plain l.terms)
