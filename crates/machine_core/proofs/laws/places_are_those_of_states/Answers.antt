use Rattle.machine_core.proofs.GenerationTurns.{places_agree}
use Rattle.machine_core.proofs.laws.places_are_those_of_states.Goals as goal

pub returns : goal.returns
returns c = λ names s sound numbered frames. places_agree names s sound numbered frames
