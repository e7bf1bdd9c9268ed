use Rattle.area_core.proofs.EnabledSlots.{slot_decided}
use Rattle.area_core.proofs.laws.slot_stores_are_decided.Goals as goal

-- the test is the line and what the invariant says of the anchor
pub returns : goal.returns
returns c = λ s k process place value sound. slot_decided s sound k process place value
