use Rattle.code_index.proofs.Owned.{owned_same}
use Rattle.code_index.proofs.laws.roots_keep_index.Goals as goal

pub returns : goal.returns
returns c = owned_same
