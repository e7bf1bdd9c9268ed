use Rattle.marks.proofs.InOrder.{drop_true, drop_true_under_way, answer_true}
use Rattle.marks.proofs.laws.answers_are_true.Goals as goal

pub returns-clause-drop : goal.returns-clause-drop
returns-clause-drop c = λ u process p k d s rest among. drop_true u process p k d s rest among

pub returns-clause-under_way : goal.returns-clause-under_way
returns-clause-under_way c = λ u process p k d s among. drop_true_under_way u process p k d s among

pub returns-clause-answer : goal.returns-clause-answer
returns-clause-answer c = λ u process p k l s among own. answer_true u process p k l s among own
