use Rattle.copy_turns.proofs.StateLaws.{two_at_most}
use Rattle.copy_turns.proofs.laws.at_most_two_turns_are_held.Goals as goal

pub returns : goal.returns
returns c = two_at_most
