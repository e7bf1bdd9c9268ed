-- The words that are left hold those of the terms to come where the room holds all. A term has fewer words than the row or term that it stands in.
use Rattle.std.proofs.Common.{◌≡◌, ◌+◌, ◌*◌, map, drop}
use Rattle.term_core.specs.Plain.{plain}
use Rattle.term_core.specs.PlainTerm.{row_of, row_words, term_words}
use Rattle.mod_core.proofs.validity.+words.Given as goal

abbrev pub decreases-left_behind_term : goal.decreases-left_behind_term
decreases-left_behind_term l = 2 * term_words (plain l.term.now)

abbrev pub decreases-left_behind_terms : goal.decreases-left_behind_terms
decreases-left_behind_terms l = 2 * row_words (row_of l.terms.now) + 1

abbrev pub invariant-left_behind_terms-loop-term : goal.invariant-left_behind_terms-loop-term
invariant-left_behind_terms-loop-term l = l.left + row_words (row_of l.terms) ≡ l.fn.room + row_words (row_of (map plain (drop l.term-index l.term-items)))
