-- New term tables are those of the writer of a new table.
use Rattle.new_tables.proofs.Begun.{last_begun}
use Rattle.area_tests.proofs.Begun.{begun_tables}
use Rattle.area_tests.proofs.keys.fill_new.Goals as goal

pub fill_and_look-requires-clause-owned : goal.fill_and_look-requires-clause-owned
fill_and_look-requires-clause-owned c =
    let made = c.in_ok-shared in
    begun_tables made.shared.table.shared.table_id made.shared.table.shared.key 1 made.parts.writer made.ensures.writer c.new-tables.result c.new-tables.ensures.owned

-- the one member is as it began
pub fill_and_look-requires-clause-begun : goal.fill_and_look-requires-clause-begun
fill_and_look-requires-clause-begun c =
    last_begun c.in_ok-shared.shared.table.shared.table_id 0 c.in_ok-shared.parts.members.items _ c.in-Some.leader c.in-Some.ensures.items c.in_ok-shared.ensures.members
