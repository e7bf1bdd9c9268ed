use Rattle.std.proofs.Common.{◌∙◌, refl, sym, ap, length, subst}
use Rattle.word_run.specs.Loaders.{AreInboxes}
use Rattle.word_run.proofs.Rounding.{go_lent, round_go}
use Rattle.word_run.proofs.Watching.{onlookers_go}
use Rattle.word_run.proofs.round.whole_round.Goals as goal

-- each scheduler may have a slice, and each observer a look; the inboxes are lent as a slice
pub named_round-desk-requires-clause-homes : goal.named_round-desk-requires-clause-homes
named_round-desk-requires-clause-homes g c = λ κs within. ap length c.deref.ensures.value ∙ c.requires.run.many ∙ sym c.requires.run.homes

pub named_round-desk-requires-clause-inboxes : goal.named_round-desk-requires-clause-inboxes
named_round-desk-requires-clause-inboxes g c = λ κs within. subst AreInboxes (sym c.deref.ensures.value) c.requires.run.inboxes_are

pub named_round-desk-requires-clause-exports : goal.named_round-desk-requires-clause-exports
named_round-desk-requires-clause-exports g c = λ κs within. c.requires.run.exports

pub named_round-desk-requires-clause-members : goal.named_round-desk-requires-clause-members
named_round-desk-requires-clause-members g c = λ κs within. c.requires.run.members ∙ sym c.requires.run.many ∙ sym (ap length c.deref.ensures.value)

pub named_round-desk-requires-clause-go : goal.named_round-desk-requires-clause-go
named_round-desk-requires-clause-go g c = λ κs within.
    go_lent g.K.Naming.names c.args.run.shared.table.shared.table_id c.args.run.shared.table.shared.key c.args.run.inboxes.items c.deref.result.now c.args.run.seats.items c.args.run.seats.items c.deref.ensures.value refl
    (round_go g.K.Naming.names _ _ c.args.run.desk.book.plain.script c.args.run.desk c.args.run.inboxes.items c.args.run.seats.items c.args.run.sight c.requires.run)

pub named_round-desk-requires-clause-observe : goal.named_round-desk-requires-clause-observe
named_round-desk-requires-clause-observe g c = λ κs within.
    onlookers_go g.K.Naming.names c.args.functions.now c.args.run.shared.table.shared.table_id c.args.run.desk.book.plain.script.observers c.args.run.onlookers.items c.requires.onlookers

-- an answer is what some desk since the round began tells of a loader
pub named_round-desk-requires-clause-answers : goal.named_round-desk-requires-clause-answers
named_round-desk-requires-clause-answers g c = λ κs within. λ desk who over since tells. record { desk = desk; since = since; tells = tells }
