use Rattle.breakpoints.proofs.Roots.{roots_keep}
use Rattle.breakpoints.proofs.laws.roots_keep_breakpoints.Goals as goal

pub returns : goal.returns
returns c = roots_keep
