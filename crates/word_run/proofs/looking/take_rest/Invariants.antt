use Rattle.word_run.specs.Onlookers.{HaveLeft}
use Rattle.word_run.proofs.looking.take_rest.Given as goal

-- the first observers left what they have
abbrev pub invariant-loop-onlooker : goal.invariant-loop-onlooker
invariant-loop-onlooker g l = HaveLeft g.K.Naming.names l.functions l.shared.table.shared.table_id l.yielded l.watched.watchers.items l.watched.logs
