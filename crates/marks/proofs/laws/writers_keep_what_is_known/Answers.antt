use Rattle.marks.proofs.WriterSteps.{wait_kept, look_kept, read_kept, drop_kept, answer_kept}
use Rattle.marks.proofs.laws.writers_keep_what_is_known.Goals as goal

pub returns-clause-wait : goal.returns-clause-wait
returns-clause-wait c = λ u process p k w s. wait_kept u process p k w s

pub returns-clause-look : goal.returns-clause-look
returns-clause-look c = λ u process p k l s clear. look_kept u process p k l s clear

pub returns-clause-read : goal.returns-clause-read
returns-clause-read c = λ u process p k t s over own. read_kept u process p k t s over own

pub returns-clause-drop : goal.returns-clause-drop
returns-clause-drop c = λ u process p k d s through newest told. drop_kept u process p k d s through newest told

pub returns-clause-answer : goal.returns-clause-answer
returns-clause-answer c = λ u process p k l s found. answer_kept u process p k l s found
