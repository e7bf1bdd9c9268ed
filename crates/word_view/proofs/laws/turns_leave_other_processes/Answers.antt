use Rattle.word_view.proofs.Reporting.{other_stays}
use Rattle.word_view.proofs.laws.turns_leave_other_processes.Goals as goal

pub returns : goal.returns
returns c = λ v w other gone apart h. other_stays v w other gone apart h
