use Rattle.shared_words.proofs.WatchersTaken.{begun_are_watchers}
use Rattle.new_tables.proofs.Begun.{last_begun}
use Rattle.area_tests.proofs.Members.{one_again}
use Rattle.area_tests.proofs.slots.fill_new.Goals as goal

-- the one member is as it began
pub begin_and_fill-answers-requires-clause-begun : goal.begin_and_fill-answers-requires-clause-begun
begin_and_fill-answers-requires-clause-begun c =
    last_begun c.in_ok-shared.shared.table.shared.table_id 0 c.in_ok-shared.parts.members.items _ c.in-Some.member c.in-Some.ensures.items c.in_ok-shared.ensures.members

-- and comes in again
pub last_words-requires-clause-members : goal.last_words-requires-clause-members
last_words-requires-clause-members c =
    one_again c.in_ok-shared.shared.table.shared.table_id c.in_ok-shared.shared.table.shared.key.members c.in_ok-shared.parts.members.items _ c.push.new.self.items c.in-Some.member c.begin_and_fill-answers.new.member c.in-Some.ensures.items c.in_ok-shared.ensures.members c.in_ok-push.ensures.items
    c.begin_and_fill-answers.ensures.token c.begin_and_fill-answers.ensures.number c.in_ok-shared.ensures.opening.0

pub last_words-requires-clause-watchers : goal.last_words-requires-clause-watchers
last_words-requires-clause-watchers c = begun_are_watchers _ _ _ c.in_ok-shared.ensures.watchers
