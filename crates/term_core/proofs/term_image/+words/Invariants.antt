-- What is counted, and what is left, is the whole row.
use Rattle.std.proofs.Common.{◌≡◌, ◌+◌, map, drop}
use Rattle.term_core.specs.Plain.{plain}
use Rattle.term_core.specs.PlainTerm.{row_of, row_words}
use Rattle.term_core.proofs.term_image.+words.Given as goal

-- the words so far and those of the terms that are left
abbrev pub invariant-row_len-loop-term : goal.invariant-row_len-loop-term
invariant-row_len-loop-term l = l.words + row_words (row_of (map plain (drop l.term-index l.term-items))) ≡ row_words (row_of l.terms)
