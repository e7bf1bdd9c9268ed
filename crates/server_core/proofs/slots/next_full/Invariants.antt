-- The slots that were looked at are gaps.
use Rattle.std.proofs.Common.{◌≡◌, ◌<◌, ◌≤◌, None, Some, length, slice_get, ℕ}
use Rattle.server_core.proofs.slots.next_full.Given as goal

abbrev pub invariant-loop-slot : goal.invariant-loop-slot
invariant-loop-slot l = record {
  behind : l.from ≤ l.slot;
  within : l.slot ≤ length l.slots;
  gaps : (k : ℕ) → l.from ≤ k → k < l.slot → slice_get l.slots k ≡ Some None;
}
