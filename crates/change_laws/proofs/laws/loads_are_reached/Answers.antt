-- By the current code of the call's module.
use Rattle.change_laws.proofs.Reached.{load_leaves, load_reached}
use Rattle.change_laws.proofs.laws.loads_are_reached.Goals as goal

pub returns-clause-loaded : goal.returns-clause-loaded
returns-clause-loaded c = λ s modules place m to sound fits at named. load_reached s modules place m to sound fits at named

pub returns-clause-others : goal.returns-clause-others
returns-clause-others c = λ s modules to sound others. load_leaves s modules to sound others
