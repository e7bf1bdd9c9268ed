use Rattle.area_core.proofs.EnabledRoots.{root_decided}
use Rattle.area_core.proofs.laws.root_stores_are_decided.Goals as goal

-- the test is what the invariant says of the new generation, and of the areas that are kept from now on
pub returns : goal.returns
returns c = λ s code bp term next areas sound. root_decided s code bp term next areas sound
