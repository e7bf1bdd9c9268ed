use Rattle.code_law.proofs.States.{served_lawful}
use Rattle.code_law.proofs.laws.served_generations_are_lawful.Goals as goal

pub returns : goal.returns
returns c = λ names g served block. served_lawful names g served block
