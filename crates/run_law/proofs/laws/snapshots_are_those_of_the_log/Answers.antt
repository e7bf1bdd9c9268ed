use Rattle.run_law.proofs.Snapshots.{has_snapshots}
use Rattle.run_law.proofs.laws.snapshots_are_those_of_the_log.Goals as goal

pub returns : goal.returns
returns c = λ names s log w over watched. has_snapshots names s log w over watched
