use Rattle.machine_core.proofs.GenerationLiterals.{literal_of_generation, literal_of_state}
use Rattle.machine_core.proofs.laws.literals_are_those_of_states.Goals as goal

pub returns : goal.returns
returns c = λ names s sound numbered block at kept. (literal_of_state names s sound block at kept, literal_of_generation names s sound block at kept)
