use Rattle.word_view.proofs.GoingOn.{stands_on}
use Rattle.word_view.proofs.laws.reports_leave_processes.Goals as goal

pub returns : goal.returns
returns c = λ v b generation process h r ready. stands_on v b generation h r process ready
