-- The terms so far have become values.
use Rattle.std.proofs.Common.{◌≡◌, ◌++◌, map, take}
use Rattle.machine_core.specs.declared.process.Value.TheVariants.{Owned}
use Rattle.machine_core.proofs.registers.push_terms.Given as goal

abbrev pub invariant-loop-term : goal.invariant-loop-term
invariant-loop-term l = l.values.items ≡ l.initial.values.items ++ map Owned (take l.term-index l.terms)
