use Rattle.word_lap.proofs.TurnsOfLap.{LapSteps}
use Rattle.word_lap.proofs.laps.take_turns.Given as goal

-- the places before this one had their turns
abbrev pub invariant-loop-at : goal.invariant-loop-at
invariant-loop-at g l = LapSteps l.fn.exports l.fn.shared.table.shared.key l.fn.shared.table.shared.table_id l.fn.member l.fn.processes.items l.at l.member l.processes.items
