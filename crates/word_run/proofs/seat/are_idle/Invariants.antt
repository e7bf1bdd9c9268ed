use Rattle.std.proofs.Common.{◌≡◌, ◌<◌, ℕ, true, slice_get, IsOk, Ok, Some}
use Rattle.word_run.specs.declared.seat.Seat.{Seat}
use Rattle.word_run.specs.declared.scheduler.Slice.TheVariants.{Idle}
use Rattle.word_run.proofs.seat.are_idle.Given as goal

-- the slices of the first schedulers had no want of memory, and each was idle if all were
abbrev pub invariant-loop-seat : goal.invariant-loop-seat
invariant-loop-seat g l = record {
  ok : (k : ℕ) (seat : Seat g.row.T.Denot g.row.I.Denot) → k < l.seat-index → slice_get l.seats k ≡ Some seat → IsOk seat.answer;
  idle : l.idle ≡ true → (k : ℕ) (seat : Seat g.row.T.Denot g.row.I.Denot) → k < l.seat-index → slice_get l.seats k ≡ Some seat → seat.answer ≡ Ok Idle;
}
