-- What is copied is what was passed.
use Rattle.std.proofs.Common.{◌≡◌, take}
use Rattle.term_core.proofs.copy.+copy.Given as goal

-- the copies are the terms so far
abbrev pub invariant-copy_terms-loop-term : goal.invariant-copy_terms-loop-term
invariant-copy_terms-loop-term l = l.copies.items ≡ take l.term-index l.term-items
