use Rattle.run_law.proofs.Newcomers.{spawn_taken}
use Rattle.run_law.proofs.laws.spawned_processes_are_taken.Goals as goal

pub returns : goal.returns
returns c = λ s done journal homes home put taken all posted are number line at own. spawn_taken s done journal homes home put taken all posted are number line at own
