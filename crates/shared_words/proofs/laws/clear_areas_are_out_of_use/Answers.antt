use Rattle.shared_words.proofs.ClearLooks.{out_of_use}
use Rattle.shared_words.proofs.laws.clear_areas_are_out_of_use.Goals as goal

pub returns : goal.returns
returns g c = λ opening s r kind serial clear. out_of_use s r kind serial clear
