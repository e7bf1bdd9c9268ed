use Rattle.shared_words.proofs.ReadWords.{not_loaded}
use Rattle.shared_words.proofs.laws.what_is_loaded_is_not_stored.Goals as goal

-- a generation that is held may be read
pub returns : goal.returns
returns g c = λ opening s r id word value block at v here is loads may. not_loaded s r word value block at is may id v here loads
