-- While the switch is not over the words stand for the state as they do at rest.
use Rattle.staging.proofs.Releasable.{settling_releasable}
use Rattle.staging.proofs.releasing.clear_areas_are_releasable_while_settling.Goals as goal

pub returns : goal.returns
returns g c = settling_releasable g.K.Naming.names
