use Rattle.std.proofs.Common.{OnOk, length, sym, ap, subst, ◌∙◌}
use Rattle.std.proofs.lemmas.List.{with_items_is}
use Rattle.std.proofs.lemmas.Result.{on_ok_weaker}
use Rattle.std.specs.Vec.{with_items}
use Rattle.word_run.specs.Desks.{DeskState}
use Rattle.word_run.specs.Loaders.{AreInboxes}
use Rattle.word_run.specs.Onlookers.{AreOnlookers}
use Rattle.word_run.specs.Rounds.{HaveTakers, IsRun}
use Rattle.word_run.proofs.Hearing.{heard_lent, know_posted, taken_posted, told_run}
use Rattle.word_run.proofs.rounds.turn_round.Goals as goal

-- each inbox has its two ends; the inboxes and the schedulers are lent as slices
pub tell-requires-clause-inboxes : goal.tell-requires-clause-inboxes
tell-requires-clause-inboxes g c = subst AreInboxes (sym c.deref.ensures.value) c.requires.run.inboxes_are

pub tell-requires-clause-takers : goal.tell-requires-clause-takers
tell-requires-clause-takers g c = subst (λ seats. HaveTakers seats) (sym c.deref_mut.ensures.value) (λ k seat at. let kept = c.requires.run.kept k seat at in kept.1.inbox ∙ kept.0)

pub tell-requires-clause-many : goal.tell-requires-clause-many
tell-requires-clause-many g c = ap length c.deref.ensures.value ∙ c.requires.run.many ∙ sym (ap length c.deref_mut.ensures.value)

pub tell-requires-clause-homes : goal.tell-requires-clause-homes
tell-requires-clause-homes g c = c.requires.run.homes ∙ sym (ap length c.deref_mut.ensures.value)

-- the run is as it should be still
pub slice_round-requires-clause-run : goal.slice_round-requires-clause-run
slice_round-requires-clause-run g c = λ κs within.
    let heard = heard_lent c.args.run.desk.posted c.args.run.seats.items c.deref_mut.result.now c.tell.new.seats (with_items c.args.run.seats c.tell.new.seats).items c.deref_mut.ensures.value
    (with_items_is c.args.run.seats c.tell.new.seats (c.tell.auto.seats ∙ c.deref_mut.ensures.len)) c.tell.ensures.seats in
    told_run g.K.Naming.names _ _ c.args.run.desk c.tell.new.self c.args.run.inboxes.items c.args.run.seats.items (with_items c.args.run.seats c.tell.new.seats).items c.args.run.sight c.tell.ensures.desk c.requires.run heard

pub slice_round-requires-clause-onlookers : goal.slice_round-requires-clause-onlookers
slice_round-requires-clause-onlookers g c = λ κs within.
    subst (λ (d : DeskState). AreOnlookers g.K.Naming.names c.args.functions.now c.args.run.shared.table.shared.table_id d.book.plain.script.observers c.args.run.onlookers.items) (sym c.tell.ensures.desk) c.requires.onlookers

-- the desk was the same
pub returns-clause-run : goal.returns-clause-run
returns-clause-run g c =
    let had = c.slice_round.result in
    let here = c.args.run.shared.table.shared in
    subst (λ (d : DeskState). OnOk had.1 (IsRun g.K.Naming.names d.book.plain.script here.table_id here.key had.0.desk had.0.inboxes.items had.0.seats.items had.0.sight)) c.tell.ensures.desk c.slice_round.ensures.run

pub returns-clause-onlookers : goal.returns-clause-onlookers
returns-clause-onlookers g c =
    let had = c.slice_round.result in
    subst (λ (d : DeskState). OnOk had.1 (AreOnlookers g.K.Naming.names c.args.functions.now c.args.run.shared.table.shared.table_id d.book.plain.script.observers had.0.onlookers.items)) c.tell.ensures.desk c.slice_round.ensures.onlookers

-- what each was told of is what was posted before the round
pub returns-clause-told : goal.returns-clause-told
returns-clause-told g c =
    let heard = heard_lent c.args.run.desk.posted c.args.run.seats.items c.deref_mut.result.now c.tell.new.seats (with_items c.args.run.seats c.tell.new.seats).items c.deref_mut.ensures.value
    (with_items_is c.args.run.seats c.tell.new.seats (c.tell.auto.seats ∙ c.deref_mut.ensures.len)) c.tell.ensures.seats in
    know_posted c.args.run.desk.posted c.args.run.seats.items (with_items c.args.run.seats c.tell.new.seats).items c.slice_round.result.0.seats.items heard c.slice_round.ensures.told

-- and all of it was taken
pub returns-clause-taken : goal.returns-clause-taken
returns-clause-taken g c =
    let heard = heard_lent c.args.run.desk.posted c.args.run.seats.items c.deref_mut.result.now c.tell.new.seats (with_items c.args.run.seats c.tell.new.seats).items c.deref_mut.ensures.value
    (with_items_is c.args.run.seats c.tell.new.seats (c.tell.auto.seats ∙ c.deref_mut.ensures.len)) c.tell.ensures.seats in
    let told = know_posted c.args.run.desk.posted c.args.run.seats.items (with_items c.args.run.seats c.tell.new.seats).items c.slice_round.result.0.seats.items heard c.slice_round.ensures.told in
    on_ok_weaker c.slice_round.result.1 (λ taken. taken_posted c.args.run.desk.posted c.slice_round.result.0.seats.items told taken) c.slice_round.ensures.taken
