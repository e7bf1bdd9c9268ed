-- By what each kind of change makes of the traced functions.
use Rattle.change_laws.proofs.KeptTraced.{traced_since}
use Rattle.change_laws.proofs.laws.breakpoints_follow.Goals as goal

pub returns : goal.returns
returns c = λ s change e. traced_since s change e
