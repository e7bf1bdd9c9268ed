use Rattle.machine_core.proofs.GenerationLiterals.{area_agrees}
use Rattle.machine_core.proofs.laws.generations_have_the_areas.Goals as goal

pub returns : goal.returns
returns c = λ names s sound numbered serial kept. area_agrees names s sound serial kept
