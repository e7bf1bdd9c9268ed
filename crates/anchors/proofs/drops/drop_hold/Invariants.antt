use Rattle.anchors.proofs.Dropping.{DropSteps}
use Rattle.anchors.proofs.drops.drop_hold.Given as goal

-- the anchors before this place name the area for this no more
abbrev pub invariant-loop-place : goal.invariant-loop-place
invariant-loop-place g l = DropSteps l.fn.shared.table.shared.table_id l.fn.shared.table.shared.key l.fn.process l.fn.kind l.fn.area.serial l.fn.member l.place l.member
