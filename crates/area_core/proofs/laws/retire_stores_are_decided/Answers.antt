use Rattle.area_core.proofs.EnabledAreas.{retire_decided}
use Rattle.area_core.proofs.laws.retire_stores_are_decided.Goals as goal

-- the test is what the invariant says of the retire word, and of the areas that stay
pub returns : goal.returns
returns c = λ s word value block sound is. retire_decided s word value block sound is
