-- So many steps were made, and nothing is published.
use Rattle.staging.proofs.TraceRounds.{MovesOn}
use Rattle.staging.proofs.tracing.go_on.Given as goal

abbrev pub invariant-loop-round : goal.invariant-loop-round
invariant-loop-round g l = MovesOn l.fn.shared.table.shared.table_id l.fn.shared.table.shared.key g.K.Naming.names l.fn.server l.fn.change l.round l.fn.tables l.tables
