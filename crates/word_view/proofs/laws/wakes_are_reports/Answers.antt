use Rattle.word_view.proofs.Lapping.{wake_reports}
use Rattle.word_view.proofs.laws.wakes_are_reports.Goals as goal

pub returns : goal.returns
returns c = wake_reports
