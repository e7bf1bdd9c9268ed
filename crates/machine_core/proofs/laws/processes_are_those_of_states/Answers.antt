use Rattle.machine_core.proofs.GenerationProcesses.{process_of_state}
use Rattle.machine_core.proofs.laws.processes_are_those_of_states.Goals as goal

pub returns : goal.returns
returns c = λ names s sound numbered p kept. process_of_state names s sound numbered p kept
