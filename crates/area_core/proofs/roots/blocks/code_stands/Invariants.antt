use Rattle.std.proofs.Common.{◌≡◌}
use Rattle.area_core.specs.Roots.{code_stands}
use Rattle.area_core.proofs.roots.blocks.code_stands.Given as goal

-- whether the words so far lead to what is reached
abbrev pub invariant-loop-entry : goal.invariant-loop-entry
invariant-loop-entry l = l.stands ≡ code_stands l.fn.words l.fn.published l.entry
