use Rattle.run_law.proofs.Closing.{have_come}
use Rattle.run_law.proofs.laws.closed_tables_tell.Goals as goal

pub returns : goal.returns
returns c = λ table members old w staffed all has marks beginnings. have_come table members old w staffed all has marks beginnings
