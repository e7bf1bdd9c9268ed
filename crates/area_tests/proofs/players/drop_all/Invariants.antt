use Rattle.area_tests.specs.Work.{GoesOn}
use Rattle.area_tests.proofs.players.drop_all.Given as goal

-- the process goes on
abbrev pub invariant-loop-at : goal.invariant-loop-at
invariant-loop-at l = GoesOn l.fn.shared.table.shared.table_id l.fn.shared.table.shared.key l.fn.process l.fn.member l.member
