use Rattle.shared_words.proofs.EntryStores.{entry_kept}
use Rattle.shared_words.proofs.laws.entry_words_alone_change.Goals as goal

-- by the block invariant
pub returns : goal.returns
returns g c = λ opening s r at on may. entry_kept s r at on may
