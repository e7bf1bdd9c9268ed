use Rattle.std.proofs.Common.{length, ◌∙◌}
use Rattle.std.proofs.lemmas.List.{with_items_is}
use Rattle.std.specs.Vec.{with_items}
use Rattle.word_run.specs.Rounds.{CanGo}
use Rattle.word_run.proofs.Rounding.{became_by, became_lent}
use Rattle.word_run.proofs.Watching.{all_lent}
use Rattle.word_run.proofs.round.take_slices.Goals as goal

-- they are lent as a slice
pub take_round-requires-clause-go : goal.take_round-requires-clause-go
take_round-requires-clause-go g c = λ κs within.
    all_lent (CanGo g.K.Naming.names c.args.shared.now.table.shared.table_id c.args.shared.now.table.shared.key (length c.args.inboxes.now)) c.args.seats.items c.deref_mut.result.now c.deref_mut.ensures.value c.requires.go

-- each had its slice
pub returns : goal.returns
returns g c =
    became_lent _ c.args.seats.items c.deref_mut.result.now c.take_round.new.seats (with_items c.args.seats c.take_round.new.seats).items c.deref_mut.ensures.value
    (with_items_is c.args.seats c.take_round.new.seats (c.take_round.auto.seats ∙ c.deref_mut.ensures.len))
    (became_by _ c.deref_mut.result.now c.take_round.new.seats c.take_round.auto.seats c.take_round.ensures)
