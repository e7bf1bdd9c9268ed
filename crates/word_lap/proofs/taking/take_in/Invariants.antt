use Rattle.word_lap.proofs.Welcomes.{TakenSteps}
use Rattle.word_lap.proofs.taking.take_in.Given as goal

-- what came so far was taken in
abbrev pub invariant-loop : goal.invariant-loop
invariant-loop g l = TakenSteps g.K.Naming.names l.fn.shared.table.shared.table_id l.fn.shared.table.shared.key l.fn.member l.member l.fn.taker l.taker l.fn.processes l.processes
