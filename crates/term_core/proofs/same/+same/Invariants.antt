-- The terms that are left decide.
use Rattle.std.proofs.Common.{◌≡◌, map, drop}
use Rattle.term_core.specs.Plain.{plain}
use Rattle.term_core.specs.Same.{are_same}
use Rattle.term_core.proofs.same.+same.Given as goal

-- the lists are the same where what is left of them is
abbrev pub invariant-are_same-loop-at : goal.invariant-are_same-loop-at
invariant-are_same-loop-at l = are_same l.terms l.others ≡ are_same (map plain (drop l.at l.term-items)) (map plain (drop l.at l.others-inside.items.items))
