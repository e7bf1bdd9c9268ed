-- By the current code of the call's module.
use Rattle.change_laws.proofs.Reached.{delete_leaves, deleted_reached}
use Rattle.change_laws.proofs.laws.deletes_reach_nothing.Goals as goal

pub returns-clause-deleted : goal.returns-clause-deleted
returns-clause-deleted c = λ s name to same. deleted_reached s name to same

pub returns-clause-others : goal.returns-clause-others
returns-clause-others c = λ s name to other. delete_leaves s name to other
