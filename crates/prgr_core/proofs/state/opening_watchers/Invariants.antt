use Rattle.std.proofs.Common.{◌≡◌}
use Rattle.prgr_core.specs.Step.{opening_watchers}
use Rattle.prgr_core.proofs.state.opening_watchers.Given as goal

-- the watchers so far are those of so many
abbrev pub invariant-loop-number : goal.invariant-loop-number
invariant-loop-number l = l.watchers ≡ opening_watchers l.number
