use Rattle.machine_core.proofs.GenerationExports.{dispatched_is, exported_is}
use Rattle.machine_core.proofs.laws.generations_reach_the_same.Goals as goal

pub returns : goal.returns
returns c = λ names s sound numbered to. record { read = dispatched_is names s sound numbered to; tabled = exported_is names s numbered to }
