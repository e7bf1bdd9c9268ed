use Rattle.area_core.proofs.UnreadStores.{unread_stays}
use Rattle.area_core.proofs.ReadWords.{read_words_stay}
use Rattle.area_core.proofs.laws.what_is_read_is_not_stored.Goals as goal

-- the test of a store asks that nobody may read the word
pub returns-clause-store : goal.returns-clause-store
returns-clause-store c = λ s t word value seat block at sound is e may. unread_stays s t word value seat block at sound is e may

-- each other event but that of an entry word stores elsewhere or nowhere
pub returns-clause-event : goal.returns-clause-event
returns-clause-event c = λ s t event seat word block at sound is may e. read_words_stay s t word sound block at is event seat may e
