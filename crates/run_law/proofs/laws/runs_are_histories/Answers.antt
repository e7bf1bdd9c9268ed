use Rattle.run_law.proofs.Histories.{run_history}
use Rattle.run_law.proofs.laws.runs_are_histories.Goals as goal

pub returns : goal.returns
returns c = λ names s log w over answered watched rest. run_history names s log w over answered watched rest
