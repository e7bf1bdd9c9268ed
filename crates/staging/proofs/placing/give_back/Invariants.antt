-- So many areas are given back.
use Rattle.staging.proofs.PlaceLoops.{GivesBack}
use Rattle.staging.proofs.placing.give_back.Given as goal

abbrev pub invariant-loop-back : goal.invariant-loop-back
invariant-loop-back g l = GivesBack l.fn._shared.table.shared.table_id l.fn._shared.table.shared.key g.K.Naming.names l.fn._server l.fn._change l.back l.fn.tables l.tables l.fn.taken.items l.taken.items
