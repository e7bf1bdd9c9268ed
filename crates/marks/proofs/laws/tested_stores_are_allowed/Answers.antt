use Rattle.marks.proofs.Stores.{store_allowed}
use Rattle.marks.proofs.laws.tested_stores_are_allowed.Goals as goal

pub returns : goal.returns
returns c = λ s awake generation process place value p first last may stays kills. store_allowed s awake generation process place value p may stays kills
