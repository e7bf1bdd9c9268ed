-- The leaves of a row are right where those of the terms that are left are. A term has fewer words than the row or term that it stands in.
use Rattle.std.proofs.Common.{ℕ, ◌+◌, ◌*◌, ◌<◌, map, drop}
use Rattle.std.specs.Prelude.{◌↔◌}
use Rattle.term_core.specs.declared.names.TheConstants.{MOST_NAMES}
use Rattle.term_core.specs.Plain.{plain}
use Rattle.term_core.specs.PlainTerm.{EachInRow, row_of, row_words, term_words}
use Rattle.term_core.specs.Written.{IsTermInteger}
use Rattle.mod_core.proofs.validity.+leaves.Given as goal

abbrev pub decreases-has_leaves : goal.decreases-has_leaves
decreases-has_leaves l = 2 * term_words (plain l.term.now)

abbrev pub decreases-have_leaves : goal.decreases-have_leaves
decreases-have_leaves l = 2 * row_words (row_of l.terms.now) + 1

abbrev pub invariant-have_leaves-loop-term : goal.invariant-have_leaves-loop-term
invariant-have_leaves-loop-term l =
    EachInRow IsTermInteger (λ (atom : ℕ). atom < MOST_NAMES) (row_of l.terms) ↔ EachInRow IsTermInteger (λ (atom : ℕ). atom < MOST_NAMES) (row_of (map plain (drop l.term-index l.term-items)))
