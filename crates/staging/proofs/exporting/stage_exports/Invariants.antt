-- So many names are staged.
use Rattle.staging.proofs.StagedNames.{StagesOn}
use Rattle.staging.proofs.exporting.stage_exports.Given as goal

abbrev pub invariant-loop-number : goal.invariant-loop-number
invariant-loop-number g l = StagesOn l.shared.table.shared.table_id l.shared.table.shared.key g.K.Naming.names l.server l.change l.fn.tables l.tables l.taken l.number
