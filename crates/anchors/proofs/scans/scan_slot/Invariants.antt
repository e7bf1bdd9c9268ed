use Rattle.anchors.proofs.SlotWalks.{SlotSteps}
use Rattle.anchors.proofs.scans.scan_slot.Given as goal

-- the anchors before this place were found clear
abbrev pub invariant-loop-place : goal.invariant-loop-place
invariant-loop-place g l = SlotSteps l.fn.shared.table.shared.table_id l.fn.shared.table.shared.key l.fn.kind l.fn.area.serial l.fn.process l.turn l.fn.writer l.place l.killed l.writer
