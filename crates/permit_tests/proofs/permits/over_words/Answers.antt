-- The writer is one that has made no step, and the tables are its own; the member that is taken out is the one that begins.
use Rattle.std.proofs.Common.{refl}
use Rattle.permit_tests.proofs.Begun.{begun}
use Rattle.permit_tests.proofs.Leading.{last_begun}
use Rattle.permit_tests.proofs.permits.over_words.Goals as goal

pub new-requires-2 : goal.new-requires-2
new-requires-2 g c = record { first = begun _ _ _ c.in_ok-shared.parts.writer c.in_ok-shared.ensures.writer }

pub over_run-requires-clause-run : goal.over_run-requires-clause-run
over_run-requires-clause-run g c = (c.in_ok-tables.ensures.tables _ _ c.in_ok-shared.ensures.token, refl)

pub over_run-requires-clause-begun : goal.over_run-requires-clause-begun
over_run-requires-clause-begun g c = last_begun _ 0 c.in_ok-shared.parts.members.items c.pop.new.self.items c.in-Some.leader c.in-Some.ensures.items c.in_ok-shared.ensures.members
