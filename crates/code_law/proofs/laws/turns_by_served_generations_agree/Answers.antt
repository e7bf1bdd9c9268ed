use Rattle.code_law.proofs.States.{served_turn}
use Rattle.code_law.proofs.laws.turns_by_served_generations_agree.Goals as goal

pub returns : goal.returns
returns c = λ names g served p placed. served_turn names g served p placed
