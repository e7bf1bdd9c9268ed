use Rattle.area_core.proofs.EnabledAreas.{entry_decided}
use Rattle.area_core.proofs.laws.entry_stores_are_decided.Goals as goal

-- the test is the line and what the invariant says of the entry word
pub returns : goal.returns
returns c = λ s at on sound. entry_decided s sound at on
