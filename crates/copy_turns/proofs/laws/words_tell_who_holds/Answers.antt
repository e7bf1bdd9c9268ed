use Rattle.copy_turns.proofs.StateLaws.{tells_who_holds}
use Rattle.copy_turns.proofs.laws.words_tell_who_holds.Goals as goal

pub returns : goal.returns
returns c = tells_who_holds
