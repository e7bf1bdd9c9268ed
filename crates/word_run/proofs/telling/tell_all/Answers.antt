use Rattle.std.proofs.Common.{refl, sym, ◌∙◌, arith}
use Rattle.word_run.proofs.Hearing.{all_heard, end_kept, end_numbered, next_heard, none_heard, taker_numbered}
use Rattle.word_run.proofs.Laps.{inbox_there}
use Rattle.word_run.proofs.telling.tell_all.Goals as goal

-- none was told yet
pub loop-home-init : goal.loop-home-init
loop-home-init g c = record { posters = refl; seats = none_heard c.args.posters.now c.args.seats.now }

-- both ends are those of the inbox
pub tell_seat-requires-clause-poster : goal.tell_seat-requires-clause-poster
tell_seat-requires-clause-poster g c =
    end_numbered c.args.posters.now c.loop-home.posters c.loop-home.home _ c.requires.ends c.loop-home.invariant.posters (omega (arith, c.loop-home-test.true, c.requires.many, c.requires.homes))
    ∙ sym (inbox_there c.args.inboxes.now c.loop-home.home _ c.requires.inboxes c.loop-home-test.true c.index-inboxes-home.is)

pub tell_seat-requires-clause-taker : goal.tell_seat-requires-clause-taker
tell_seat-requires-clause-taker g c =
    taker_numbered c.loop-home.home c.args.posters.now c.args.seats.now c.loop-home.seats c.loop-home.invariant.seats c.requires.takers (omega (arith, c.loop-home-test.true, c.requires.many)) _
    ∙ sym (inbox_there c.args.inboxes.now c.loop-home.home _ c.requires.inboxes c.loop-home-test.true c.index-inboxes-home.is)

-- one more was told
pub loop-home-preserved : goal.loop-home-preserved
loop-home-preserved g c = record {
  posters = end_kept c.loop-home.posters c.args.posters.now c.loop-home.home _ _ c.loop-home.invariant.posters c.tell_seat.ensures.poster;
  seats =
      next_heard c.loop-home.home c.args.posters.now c.args.seats.now c.loop-home.seats c.loop-home.invariant.seats c.loop-home.posters _ _ c.tell_seat.new.seat c.loop-home.invariant.posters
      (omega (arith, c.loop-home-test.true, c.requires.many, c.requires.homes)) (omega (arith, c.loop-home-test.true, c.requires.many)) c.tell_seat.ensures.seat;
}

-- all were told
pub returns-clause-seats : goal.returns-clause-seats
returns-clause-seats g c = all_heard c.loop-home.home c.args.posters.now c.args.seats.now c.loop-home.seats c.loop-home.invariant.seats (omega (arith, c.loop-home-test.false, c.requires.many))
