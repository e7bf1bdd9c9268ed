use Rattle.std.proofs.Common.{◌≡◌}
use Rattle.area_core.specs.Roots.{traces_stand}
use Rattle.area_core.proofs.roots.blocks.traces_stand.Given as goal

-- whether the words so far say what is traced
abbrev pub invariant-loop-function : goal.invariant-loop-function
invariant-loop-function l = l.stands ≡ traces_stand l.fn.words l.fn.published l.fn.area l.function
