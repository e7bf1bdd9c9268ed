use Rattle.word_view.proofs.GoingOn.{goes_on}
use Rattle.word_view.proofs.laws.turns_go_on_after_reports.Goals as goal

pub returns : goal.returns
returns c = λ v b generation process h r ready. goes_on v b generation h r process ready
