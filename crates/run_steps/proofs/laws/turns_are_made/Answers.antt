use Rattle.run_steps.proofs.MadeTurns.{made_alike, one_more}
use Rattle.run_steps.proofs.laws.turns_are_made.Goals as goal

pub returns-clause-more : goal.returns-clause-more
returns-clause-more c = one_more

pub returns-clause-alike : goal.returns-clause-alike
returns-clause-alike c = made_alike
