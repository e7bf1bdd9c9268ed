use Rattle.word_lap.proofs.Clearing.{ClearSteps}
use Rattle.word_lap.proofs.ending.drop_names.Given as goal

-- the anchors before this place name nothing any more
abbrev pub invariant-loop-place : goal.invariant-loop-place
invariant-loop-place g l = ClearSteps l.fn.shared.table.shared.table_id l.fn.shared.table.shared.key l.fn.process l.fn.member l.place l.member
