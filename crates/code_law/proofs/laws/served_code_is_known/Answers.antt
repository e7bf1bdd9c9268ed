use Rattle.code_law.proofs.ServedAreas.{forgets_none}
use Rattle.code_law.proofs.laws.served_code_is_known.Goals as goal

pub returns : goal.returns
returns c = λ names g served. forgets_none names g served
