-- New pools are those of the writer of a new table.
use Rattle.area_tests.proofs.Begun.{begun_owned}
use Rattle.area_tests.proofs.never.run_all.Goals as goal

pub run_parts-requires-clause-owned : goal.run_parts-requires-clause-owned
run_parts-requires-clause-owned g c κs within =
    let made = c.in_ok-shared in
    begun_owned made.shared.table.shared.table_id made.shared.table.shared.key 3 made.parts.writer made.ensures.writer c.in_ok-pools.pools c.in_ok-pools.ensures.owned
