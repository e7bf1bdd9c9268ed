-- No two of the functions so far are one.
use Rattle.std.proofs.Common.{ℕ, ◌<◌}
use Rattle.mod_core.specs.Module.{SameFunction}
use Rattle.mod_core.proofs.validity.are_apart.Given as goal

abbrev pub invariant-loop-number : goal.invariant-loop-number
invariant-loop-number l = (i j : ℕ) → i < j → j < l.number → SameFunction l.functions i j → ⊥
