use Rattle.area_core.proofs.EnabledAreas.{doom_decided}
use Rattle.area_core.proofs.laws.doom_stores_are_decided.Goals as goal

-- the test is what the invariant says of the doom word
pub returns : goal.returns
returns c = λ s word value block sound is. doom_decided s sound word value block is
