use Rattle.run_law.proofs.Tied.{made_tied, reads_tied, turns_tied}
use Rattle.run_law.proofs.laws.reads_are_those_of_states.Goals as goal

pub returns-clause-reads : goal.returns-clause-reads
returns-clause-reads c = λ names texts journal seen g l below. reads_tied names texts journal seen l g below

pub returns-clause-turns : goal.returns-clause-turns
returns-clause-turns c = λ names texts journal seen g l below. turns_tied names texts journal seen l g below

pub returns-clause-made : goal.returns-clause-made
returns-clause-made c = λ names texts journal seen generations x y l below placed made. made_tied names texts journal seen l generations x y below placed made
