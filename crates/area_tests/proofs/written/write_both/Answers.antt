-- New pools are those of the writer of a new table.
use Rattle.area_tests.proofs.Begun.{begun_owned}
use Rattle.area_tests.proofs.written.write_both.Goals as goal

pub write_next-requires-clause-owned : goal.write_next-requires-clause-owned
write_next-requires-clause-owned c = begun_owned c.args.shared.now.table.shared.table_id c.args.shared.now.table.shared.key 1 c.args.writer.now c.requires.handing c.in_ok-pools.pools c.in_ok-pools.ensures.owned
