use Rattle.run_law.proofs.Clauses.{lingering_told, purged_unnamed, released_unnamed}
use Rattle.run_law.proofs.laws.answers_are_those_of_the_log.Goals as goal

pub returns-clause-released : goal.returns-clause-released
returns-clause-released c = λ names s log w over answered. released_unnamed names s log w over answered

pub returns-clause-lingers : goal.returns-clause-lingers
returns-clause-lingers c = λ names s log w over answered. lingering_told names s log w over answered

pub returns-clause-purged : goal.returns-clause-purged
returns-clause-purged c = λ names s log w over answered. purged_unnamed names s log w over answered
