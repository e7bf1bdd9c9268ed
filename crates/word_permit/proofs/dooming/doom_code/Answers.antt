-- Want of memory comes before any word is stored.
use Rattle.std.proofs.Common.{refl}
use Rattle.word_permit.proofs.dooming.doom_code.Goals as goal

pub decide_doom-requires-clause-book : goal.decide_doom-requires-clause-book
decide_doom-requires-clause-book g c = c.requires.book.has.book

pub returns-in-Err-clause-err : goal.returns-in-Err-clause-err
returns-in-Err-clause-err g c = record { same = refl; published = refl; none = c.requires.none }
