use Rattle.machine_core.proofs.GenerationKeys.{key_found-is, key_is}
use Rattle.machine_core.proofs.laws.generations_hold_the_same.Goals as goal

pub returns : goal.returns
returns c = λ names s sound numbered key. record { read = key_is names s sound key; tabled = key_found-is names s sound key }
