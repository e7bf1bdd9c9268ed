use Rattle.server_core.proofs.Waiting.{still_fits}
use Rattle.server_core.proofs.laws.changes_wait_for_releases.Goals as goal

pub returns : goal.returns
returns c = λ s serial change free fits. still_fits s serial change free fits
