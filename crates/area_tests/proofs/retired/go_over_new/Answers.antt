-- New pools are those of the writer of a new table.
use Rattle.new_tables.proofs.Begun.{last_begun}
use Rattle.area_tests.proofs.Begun.{begun_owned}
use Rattle.area_tests.proofs.retired.go_over_new.Goals as goal

pub take_and_go-requires-clause-owned : goal.take_and_go-requires-clause-owned
take_and_go-requires-clause-owned c =
    let made = c.in_ok-shared in
    begun_owned made.shared.table.shared.table_id made.shared.table.shared.key 1 made.parts.writer made.ensures.writer c.in_ok-pools.pools c.in_ok-pools.ensures.owned

-- the one member is as it began
pub take_and_go-requires-clause-begun : goal.take_and_go-requires-clause-begun
take_and_go-requires-clause-begun c =
    last_begun c.in_ok-shared.shared.table.shared.table_id 0 c.in_ok-shared.parts.members.items _ c.in-Some.member c.in-Some.ensures.items c.in_ok-shared.ensures.members
