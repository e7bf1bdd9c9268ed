use Rattle.run_law.proofs.Histories.{all_turns, spawn_first, turns_follow}
use Rattle.run_law.proofs.laws.turns_are_those_of_the_log.Goals as goal

pub returns-clause-first : goal.returns-clause-first
returns-clause-first c = λ names s log w over. spawn_first names s log w over

pub returns-clause-follow : goal.returns-clause-follow
returns-clause-follow c = λ names s log w over. turns_follow names s log w over

pub returns-clause-all : goal.returns-clause-all
returns-clause-all c = λ names s log w over. all_turns names s log w over
