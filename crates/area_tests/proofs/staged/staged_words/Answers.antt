-- A new code index is that of the writer of a new table, and its tokens are all that there are.
use Rattle.std.proofs.Common.{arith}
use Rattle.shared_words.proofs.WatchersTaken.{begun_are_watchers}
use Rattle.new_tables.proofs.Begun.{begun_all}
use Rattle.area_tests.proofs.Begun.{begun_index}
use Rattle.area_tests.proofs.staged.staged_words.Goals as goal

pub stage_and_abort-requires-clause-owned : goal.stage_and_abort-requires-clause-owned
stage_and_abort-requires-clause-owned c =
    let made = c.in_ok-shared in
    begun_index made.shared.table.shared.table_id made.shared.table.shared.key 1 made.parts.writer made.ensures.writer c.new-index.result c.new-index.ensures.owned

pub last_words-requires-clause-members : goal.last_words-requires-clause-members
last_words-requires-clause-members c =
    let made = c.in_ok-shared in
    begun_all made.shared.table.shared.table_id 1 made.shared.table.shared.key.members made.parts.members.items made.ensures.members made.ensures.opening.0 (omega (arith))

pub last_words-requires-clause-watchers : goal.last_words-requires-clause-watchers
last_words-requires-clause-watchers c = begun_are_watchers _ _ _ c.in_ok-shared.ensures.watchers
