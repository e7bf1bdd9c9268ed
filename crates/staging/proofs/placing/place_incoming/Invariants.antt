-- So many areas are placed.
use Rattle.staging.proofs.PlaceLoops.{PlacesOn}
use Rattle.staging.proofs.placing.place_incoming.Given as goal

abbrev pub invariant-loop-at : goal.invariant-loop-at
invariant-loop-at g l = PlacesOn l.fn.shared.table.shared.table_id l.fn.shared.table.shared.key g.K.Naming.names l.fn.server l.fn.change l.at l.fn.tables l.tables l.taken.items
