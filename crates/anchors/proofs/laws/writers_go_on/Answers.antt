use Rattle.anchors.proofs.ClearNow.{goes_on}
use Rattle.anchors.proofs.laws.writers_go_on.Goals as goal

pub returns : goal.returns
returns c = goes_on
