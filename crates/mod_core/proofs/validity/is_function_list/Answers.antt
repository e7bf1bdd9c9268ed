-- The functions of a module have each of the four parts.
use Rattle.std.proofs.Common.{sym, ◌∙◌, arith}
use Rattle.std.proofs.lemmas.Bool.{false≢true}
use Rattle.mod_core.proofs.validity.is_function_list.Goals.{then-are_functions, else-are_functions}
use Rattle.mod_core.proofs.validity.is_function_list.Goals as goal

pub returns-then-are_apart : goal.returns-then-are_apart
returns-then-are_apart c = elim c.if-are_functions.branch [
  | then-are_functions w ↦ (
    λ yes. record {
      few = omega arith;
      functions = c.are_functions.ensures.0 w.if-are_functions.true;
      apart = w.are_apart.ensures.0 (sym w.value-is ∙ c.if-are_apart.true);
      short = c.are_short.ensures.0 yes;
    },
    λ is. c.are_short.ensures.1 is.short,
  )
  | else-are_functions w ↦ absurd (false≢true (sym w.if-are_functions.false ∙ sym w.value-is ∙ c.if-are_apart.true))
]
