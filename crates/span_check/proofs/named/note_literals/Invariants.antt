-- The areas so far are those at first and those of the literals so far.
use Rattle.std.proofs.Common.{◌≡◌, ◌||◌, ℕ, take}
use Rattle.machine_core.specs.Holds.{is_among}
use Rattle.machine_core.specs.Process.{value_areas}
use Rattle.span_check.proofs.named.note_literals.Given as goal

abbrev pub invariant-loop-value : goal.invariant-loop-value
invariant-loop-value l = (n : ℕ) → is_among l.serials n ≡ (is_among l.initial.serials n || is_among (value_areas (take l.value-index l.values)) n)
