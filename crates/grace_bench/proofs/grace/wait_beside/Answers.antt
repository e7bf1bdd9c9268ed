-- All members are ready to report, and the empty generation alone is published.
use Rattle.std.proofs.Common.{arith}
use Rattle.new_tables.proofs.Emptied.{handing_empty}
use Rattle.grace_bench.proofs.Members.{all_ready}
use Rattle.grace_bench.proofs.grace.wait_beside.Goals as goal

pub run_beside-requires-clause-empty : goal.run_beside-requires-clause-empty
run_beside-requires-clause-empty g c κs within = let made = c.in_ok-shared in handing_empty made.shared.table.shared.table_id made.shared.table.shared.key _ made.parts.writer made.ensures.writer

pub run_beside-requires-clause-readers : goal.run_beside-requires-clause-readers
run_beside-requires-clause-readers g c κs within = let few = c.requires.few in all_ready c.in_ok-shared.shared.table.shared.table_id c.args.readers _ (omega (arith, few)) c.in_ok-shared.ensures.members
