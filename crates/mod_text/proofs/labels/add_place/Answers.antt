-- A label more has its number, and one that had a number keeps it.
use Rattle.mod_text.proofs.Common.{not, ap, ◌∙◌}
use Rattle.mod_text.proofs.PlaceTables.{place_added, place_kept}
use Rattle.mod_text.proofs.labels.add_place.Goals as goal

pub returns-in_ok-insert : goal.returns-in_ok-insert
returns-in_ok-insert c =
    place_added c.args.places.now c.insert.new.self c.args.label c.args.number c.place_of.result c.place_of.ensures (c.is_none.ensures ∙ ap not c.if-is_none.true) c.in_ok-insert.ensures.updates

pub returns-else-is_none : goal.returns-else-is_none
returns-else-is_none c = place_kept c.args.places.now c.args.label c.args.number c.place_of.result c.place_of.ensures (c.is_none.ensures ∙ ap not c.if-is_none.false)
