-- A tuple of one integer has two words.
use Rattle.std.proofs.Common.{[], ◌∷◌, ◌++◌, pos, sym, ap, ◌∙◌, subst, lit≤, arith}
use Rattle.std.proofs.lemmas.Int.{ints}
use Rattle.term_core.specs.PlainTerm.{integer_leaf, row_of, tuple_of}
use Rattle.term_core.specs.Written.{IsTermInteger}
use Rattle.server_core.specs.ServerState.{IsShortTerm}
use Rattle.server_tests.proofs.steps.tuple_of_seven.Goals as goal

seven : IsTermInteger (pos 7)
seven = record { low = omega (arith, ints); high = omega (arith, ints) }

pub returns : goal.returns
returns c =
    let is = c.in_ok-push.ensures.ok ∙ ap (λ ts. ts ++ integer_leaf (pos 7) ∷ []) c.new-terms.ensures in
    let short : IsShortTerm (tuple_of (row_of (integer_leaf (pos 7) ∷ []))) = record { fits = (seven, tt); short = lit≤ tt } in
    subst (λ ts. IsShortTerm (tuple_of (row_of ts))) (sym is) short
