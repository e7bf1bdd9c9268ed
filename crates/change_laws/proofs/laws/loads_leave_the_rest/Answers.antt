-- By the parts of the state that a load leaves.
use Rattle.change_laws.proofs.Dropped.{load_leaves_rest}
use Rattle.change_laws.proofs.laws.loads_leave_the_rest.Goals as goal

pub returns : goal.returns
returns c = λ s modules. load_leaves_rest s modules
