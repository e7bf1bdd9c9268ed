-- Want of memory comes before any word is stored.
use Rattle.std.proofs.Common.{refl}
use Rattle.word_permit.proofs.Followed.{refused_book}
use Rattle.word_permit.proofs.Resting.{held_no_trace}
use Rattle.word_permit.proofs.operations.begin.Goals as goal

pub decide_next-requires-clause-book : goal.decide_next-requires-clause-book
decide_next-requires-clause-book g c = c.requires.tables.book

pub returns-in-Err-clause-err : goal.returns-in-Err-clause-err
returns-in-Err-clause-err g c = record { same = refl; published = refl; none = c.requires.none }

pub returns-in-Err-clause-book : goal.returns-in-Err-clause-book
returns-in-Err-clause-book g c = refused_book g.K.Naming.names _ _ c.args.book.now c.requires.tables (held_no_trace c.args.book.now.plain.holder c.args.who c.requires.holds) c.requires.rest c.requires.none c.requires.look
