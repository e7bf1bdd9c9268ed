-- None of the functions so far is this one again.
use Rattle.std.proofs.Common.{ℕ, ◌<◌}
use Rattle.mod_core.specs.Module.{SameFunction}
use Rattle.mod_core.proofs.validity.is_new.Given as goal

abbrev pub invariant-loop-other : goal.invariant-loop-other
invariant-loop-other l = (earlier : ℕ) → earlier < l.other-index → SameFunction l.functions earlier l.number → ⊥
