-- What the places told, they tell.
use Rattle.server_core.proofs.slots.SlotTable.make_place.Goals as goal

pub returns-clause-table : goal.returns-clause-table
returns-clause-table c = record {
  places = λ slot serial there. c.reach.ensures.kept serial slot (c.requires.table.places slot serial there);
  first = c.requires.table.first;
  count = c.requires.table.count;
}
