use Rattle.std.proofs.Common.{◌≡◌}
use Rattle.prgr_core.specs.Step.{opening_members}
use Rattle.prgr_core.proofs.state.opening_members.Given as goal

-- the members so far are those of so many
abbrev pub invariant-loop-number : goal.invariant-loop-number
invariant-loop-number l = l.members ≡ opening_members l.number
