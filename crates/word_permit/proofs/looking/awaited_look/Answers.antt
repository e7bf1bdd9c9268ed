-- The value stays, or one is taken.
use Rattle.progress_words.specs.Tokens.{written_by}
use Rattle.word_permit.proofs.Looked.{if_none, if_some, looks_same}
use Rattle.word_permit.proofs.PurgeCalls.{none_looked}
use Rattle.word_permit.proofs.looking.awaited_look.Goals as goal

pub returns-in-Some-clause-same : goal.returns-in-Some-clause-same
returns-in-Some-clause-same g c = none_looked c.args.book.now

pub returns-in-Some-clause-still : goal.returns-in-Some-clause-still
returns-in-Some-clause-still g c = if_some c.args.book.now.look c.in-Some.value c.in-Some.is

pub returns-in-Some-clause-looks : goal.returns-in-Some-clause-looks
returns-in-Some-clause-looks g c = looks_same (written_by c.args.book.now.tables.writer)

pub returns-in-None-clause-still : goal.returns-in-None-clause-still
returns-in-None-clause-still g c = if_none c.args.book.now.look c.take_look.result c.in-None.is
