use Rattle.word_lap.proofs.Caught.{CaughtSteps}
use Rattle.word_lap.proofs.reporting.catch_up.Given as goal

-- the member has reported, once or more
abbrev pub invariant-loop : goal.invariant-loop
invariant-loop g l = CaughtSteps g.N.Served.served l.fn.shared.table.shared.table_id l.fn.member l.member l.generation
