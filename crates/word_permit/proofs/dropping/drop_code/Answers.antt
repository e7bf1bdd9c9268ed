-- The last command is decided, and what it changes is asked for.
use Rattle.std.proofs.Common.{IfOk, refl, sym, subst}
use Rattle.progress_words.specs.Tokens.{written_by}
use Rattle.write_permit.specs.Book.{shown}
use Rattle.word_permit.specs.Purged.{EndAnswers, EndsNext, IsToldByDrop}
use Rattle.word_permit.proofs.dropping.drop_code.Goals as goal

pub decide_last-requires-clause-book : goal.decide_last-requires-clause-book
decide_last-requires-clause-book g c = c.requires.book.has.book

pub end_dropped-requires-clause-ends : goal.end_dropped-requires-clause-ends
end_dropped-requires-clause-ends g c = subst (EndsNext (shown c.args.book.now.plain) c.args.who) (sym c.in-Ok.ensures.cmd) c.requires.ends

pub end_dropped-requires-clause-told : goal.end_dropped-requires-clause-told
end_dropped-requires-clause-told g c = subst (IsToldByDrop c.args.book.now.plain.server (written_by c.args.book.now.tables.writer) c.args.serial) (sym c.in-Ok.ensures.cmd) c.requires.told

pub returns-in-Ok-clause-ok : goal.returns-in-Ok-clause-ok
returns-in-Ok-clause-ok g c = subst (λ cmd. IfOk c.end_dropped.result (EndAnswers c.args.who cmd c.args.book.now c.end_dropped.new.book)) c.in-Ok.ensures.cmd c.end_dropped.ensures.ok

pub returns-in-Err-clause-err : goal.returns-in-Err-clause-err
returns-in-Err-clause-err g c = record { same = refl; published = refl; none = c.requires.none }
