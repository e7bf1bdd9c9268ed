use Rattle.area_core.proofs.EnabledWords.{block_decided}
use Rattle.area_core.proofs.laws.block_stores_are_decided.Goals as goal

-- the test is the line and what the invariant says of the stored word
pub returns : goal.returns
returns c = λ s word value block at sound is. block_decided s sound word value block at is
