use Rattle.std.proofs.Common.{◌+◌, ◌≤◌}
use Rattle.area_tests.specs.Many.{many_published}
use Rattle.area_tests.specs.Work.{IsPlaying}
use Rattle.area_tests.proofs.slots.hold_first.Given as goal

-- the process may go on, and no more found room than were tried
abbrev pub invariant-loop-serial : goal.invariant-loop-serial
invariant-loop-serial l = IsPlaying l.fn.shared.table.shared.table_id l.fn.shared.table.shared.key 0 many_published l.member × (l.held + 1 ≤ l.serial)
