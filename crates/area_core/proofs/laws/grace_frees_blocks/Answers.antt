use Rattle.area_core.proofs.Freed.{later, word_freed, area_freed}
use Rattle.area_core.proofs.laws.grace_frees_blocks.Goals as goal

-- grace is that of the progress machine
pub returns-clause-readers : goal.returns-clause-readers
returns-clause-readers c = λ s n sound reached g may. later s n sound reached g may

-- no readable generation reads the word
pub returns-clause-words : goal.returns-clause-words
returns-clause-words c = λ s n word value block at sound reached is unread empty. word_freed s n sound reached word value block at is unread empty

-- no readable generation uses the area
pub returns-clause-areas : goal.returns-clause-areas
returns-clause-areas c = λ s n k sound reached among retired unused unnamed. area_freed s n sound reached k among retired unused unnamed
