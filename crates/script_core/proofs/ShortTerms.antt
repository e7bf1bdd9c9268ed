-- A term of a script is one that a text can say.
use Rattle.std.proofs.Common.{ℕ, ◌<◌, ◌≤◌, List, length, arith}
use Rattle.term_core.specs.declared.names.TheConstants.{MOST_NAMES}
use Rattle.term_core.specs.PlainTerm.{PlainTerm}
use Rattle.term_core.specs.Written.{IsTermInteger}
use Rattle.term_core.proofs.LeafFacts.{EachLeaf-weaker}
use Rattle.server_core.specs.ServerState.{IsShortTerm}
use Rattle.script_core.specs.Sound.{IsTermOf}

pub short_term : (names : List (List ℕ)) (term : PlainTerm) → length names ≤ MOST_NAMES → IsTermOf names term → IsShortTerm term
short_term names term room h = record {
  fits = EachLeaf-weaker IsTermInteger IsTermInteger (λ atom. atom < length names) (λ atom. atom < 4294967296) (λ z fits. fits) (λ atom named. omega (arith, named, room)) term h.leaves;
  short = h.short;
}
