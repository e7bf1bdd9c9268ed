use Rattle.word_view.proofs.Lapping.{newcomer_begins}
use Rattle.word_view.proofs.laws.newcomers_begin.Goals as goal

pub returns : goal.returns
returns c = λ names opening process published old new generation h awake r. newcomer_begins names opening process published old new generation h awake r
