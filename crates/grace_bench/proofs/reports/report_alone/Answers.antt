-- The one member is ready as it begins.
use Rattle.std.proofs.Common.{arith}
use Rattle.grace_bench.proofs.Members.{last_ready}
use Rattle.grace_bench.proofs.reports.report_alone.Goals as goal

pub report_often-requires : goal.report_often-requires
report_often-requires c = record { ready = last_ready c.in_ok-shared.shared.table.shared.table_id 1 _ _ c.in-Some.member (omega (arith)) c.in-Some.ensures.items c.in_ok-shared.ensures.members }
