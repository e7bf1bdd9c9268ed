-- Each term of a row has fewer words below its own than the row has.
use Rattle.std.specs.Prelude.{◌≤◌, List, [], ◌∷◌, map}
use Rattle.std.proofs.Common.{arith}
use denote.Param.Weighed.{most}
use Rattle.term_core.specs.declared.term.Term.{Term}
use Rattle.term_core.specs.declared.term.Term.TheVariants.{Int}
use Rattle.term_core.specs.declared.term.TermList.TheDeep.{deep-Term}
use Rattle.term_core.specs.Plain.{plain}
use Rattle.term_core.specs.PlainTerm.{row_of, term_words, row_words}

-- what stands below a term is smaller than it
deep_le-words : (t : Term) → deep-Term t ≤ term_words (plain t)
deep_le-words (Int z) = omega arith
deep_le-words t = omega arith

-- no term of a row is as large as the row
pub most_le-words : (ts : List Term) → most deep-Term ts ≤ row_words (row_of (map plain ts))
most_le-words [] = omega arith
most_le-words (t ∷ ts) = omega (arith, deep_le-words t, most_le-words ts)
