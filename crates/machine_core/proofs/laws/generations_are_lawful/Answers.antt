use Rattle.machine_core.proofs.GenerationTurns.{generation_lawful}
use Rattle.machine_core.proofs.laws.generations_are_lawful.Goals as goal

pub returns : goal.returns
returns c = λ names s sound numbered block. generation_lawful names s sound numbered block
