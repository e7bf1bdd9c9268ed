use Rattle.anchors.proofs.AllSlots.{SlotsLooked}
use Rattle.anchors.proofs.scans.scan.Given as goal

-- the slots of the processes before this one were found clear
abbrev pub invariant-loop-process : goal.invariant-loop-process
invariant-loop-process g l = SlotsLooked l.fn.shared.table.shared.table_id l.fn.shared.table.shared.key l.fn.kind l.fn.area.serial l.fn.writer l.process l.killed l.writer
