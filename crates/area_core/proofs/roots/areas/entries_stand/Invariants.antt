use Rattle.std.proofs.Common.{◌≡◌}
use Rattle.area_core.specs.Roots.{entries_stand}
use Rattle.area_core.proofs.roots.areas.entries_stand.Given as goal

-- whether the entry words so far are as the generation asks
abbrev pub invariant-loop-function : goal.invariant-loop-function
invariant-loop-function l = l.stands ≡ entries_stand l.fn.words l.fn.area l.fn.published l.function
