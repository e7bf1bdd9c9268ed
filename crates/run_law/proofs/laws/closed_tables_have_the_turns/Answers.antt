use Rattle.run_law.proofs.Histories.{table_closes}
use Rattle.run_law.proofs.laws.closed_tables_have_the_turns.Goals as goal

pub returns : goal.returns
returns c = λ names s log w over. table_closes names s log w over
