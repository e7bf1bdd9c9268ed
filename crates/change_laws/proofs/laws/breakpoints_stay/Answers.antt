-- By what each kind of change makes of the traced functions.
use Rattle.change_laws.proofs.KeptTraced.{traced_after}
use Rattle.change_laws.proofs.laws.breakpoints_stay.Goals as goal

pub returns : goal.returns
returns c = λ s change keeps. traced_after s change keeps
