-- The empty generation alone is published at first, and the one member is ready.
use Rattle.std.proofs.Common.{arith}
use Rattle.new_tables.proofs.Emptied.{handing_empty}
use Rattle.grace_bench.proofs.Members.{last_ready}
use Rattle.grace_bench.proofs.scans.scan_alone.Goals as goal

pub scan_after-requires-clause-empty : goal.scan_after-requires-clause-empty
scan_after-requires-clause-empty g c = let made = c.in_ok-shared in handing_empty made.shared.table.shared.table_id made.shared.table.shared.key _ made.parts.writer made.ensures.writer

pub scan_after-requires-clause-ready : goal.scan_after-requires-clause-ready
scan_after-requires-clause-ready g c = last_ready c.in_ok-shared.shared.table.shared.table_id 1 _ _ c.in-Some.leader (omega (arith)) c.in-Some.ensures.items c.in_ok-shared.ensures.members
