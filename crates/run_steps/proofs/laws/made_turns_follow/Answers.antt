use Rattle.run_steps.proofs.MadeTurns.{made_follow}
use Rattle.run_steps.proofs.laws.made_turns_follow.Goals as goal

pub returns : goal.returns
returns c = λ journal states top done number line generations y spawned own below between made.
    made_follow journal states top done number line spawned own generations y below between made
