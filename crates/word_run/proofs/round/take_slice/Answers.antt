use Rattle.std.proofs.lemmas.Result.{on_ok_weaker}
use Rattle.word_run.proofs.RoundSeats.{had_slice}
use Rattle.word_run.proofs.round.take_slice.Goals as goal

-- the answer tells of the slice
pub returns : goal.returns
returns g c =
    had_slice _ _ _ _ _ c.slice-seat.ensures.number c.slice-seat.ensures.told c.slice-seat.ensures.kept c.slice-seat.ensures.turns (on_ok_weaker c.slice-seat.result (λ had. had.taken had.emptied) c.slice-seat.ensures.answers)
    c.slice-seat.ensures.idle
