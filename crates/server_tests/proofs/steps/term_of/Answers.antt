-- Each of the terms is short.
use Rattle.std.proofs.Common.{sym, subst, lit≤}
use Rattle.term_core.specs.PlainTerm.{list_of, row_of, tuple_of}
use Rattle.server_core.specs.ServerState.{IsShortTerm}
use Rattle.server_tests.proofs.steps.term_of.Goals as goal

pub returns-in-EmptyTuple : goal.returns-in-EmptyTuple
returns-in-EmptyTuple c = subst (λ ts. IsShortTerm (tuple_of (row_of ts))) (sym c.new.ensures) (record { fits = tt; short = lit≤ tt })

pub returns-in-EmptyList : goal.returns-in-EmptyList
returns-in-EmptyList c = subst (λ ts. IsShortTerm (list_of (row_of ts))) (sym c.new-in-EmptyList.ensures) (record { fits = tt; short = lit≤ tt })
