-- The table has a case for it.
use Rattle.write_permit.specs.Book.{shown}
use Rattle.write_permit.proofs.EndBooks.{end_can}
use Rattle.word_permit.proofs.Dropped.{decided_made}
use Rattle.word_permit.proofs.dropping.decide_last.Goals as goal

pub decide-requires-clause-put : goal.decide-requires-clause-put
decide-requires-clause-put c = let e = end_can c.args.book.now c.requires.book c.args._who c.args.cmd c.requires.ends in e.of_text

pub decide-requires-clause-enabled : goal.decide-requires-clause-enabled
decide-requires-clause-enabled c = let e = end_can c.args.book.now c.requires.book c.args._who c.args.cmd c.requires.ends in e.enabled

pub returns-clause-made : goal.returns-clause-made
returns-clause-made c = decided_made (shown c.args.book.now) c.args.cmd c.decide.result c.decide.ensures.fits c.decide.ensures.given c.decide.ensures.answer c.decide.ensures.cmd
