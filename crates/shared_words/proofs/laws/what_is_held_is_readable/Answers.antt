use Rattle.shared_words.proofs.HeldGenerations.{readable}
use Rattle.shared_words.proofs.laws.what_is_held_is_readable.Goals as goal

pub returns : goal.returns
returns g c = λ opening s r id g v at holds. readable s r id g v at holds
