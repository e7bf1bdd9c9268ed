use Rattle.machine_core.proofs.GenerationTurns.{generation_ran}
use Rattle.machine_core.proofs.laws.turns_are_those_of_states.Goals as goal

pub returns : goal.returns
returns c = λ names s sound numbered p placed. generation_ran names s sound numbered p placed
