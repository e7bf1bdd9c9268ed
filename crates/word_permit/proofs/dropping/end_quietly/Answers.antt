-- The entry joins, and the words stay.
use Rattle.std.proofs.Common.{refl}
use Rattle.write_permit.specs.Book.{shown}
use Rattle.word_permit.proofs.Calls.{kept_shown}
use Rattle.word_permit.proofs.PurgeCalls.{quiet_end}
use Rattle.word_permit.proofs.PurgeCommands.{ends_spawnless}
use Rattle.word_permit.proofs.Replies.{ended_reply}
use Rattle.word_permit.proofs.dropping.end_quietly.Goals as goal

pub end_with-requires-clause-book : goal.end_with-requires-clause-book
end_with-requires-clause-book g c = c.requires.book.has.book

pub returns-in-Ok-clause-ok : goal.returns-in-Ok-clause-ok
returns-in-Ok-clause-ok g c = record { ends = c.requires.ends; step = c.in-Ok.ensures.ok; reply = ended_reply (shown c.args.book.now.plain) (shown c.end_with.new.book) c.args.who c.args.cmd c.in-Ok.applied c.in-Ok.ensures.ok; told = c.requires.told; none = c.requires.none }

pub returns-in-Ok-clause-book : goal.returns-in-Ok-clause-book
returns-in-Ok-clause-book g c =
    quiet_end g.K.Naming.names _ _ c.args.book.now c.end_with.new.book c.args.who c.args.cmd _ c.requires.book c.requires.none c.end_with.ensures.book c.requires.ends c.in-Ok.ensures.ok c.requires.leaves c.requires.told
    (ends_spawnless (shown c.args.book.now.plain) c.args.who c.args.cmd c.requires.book.has.book.permit.holds c.requires.holds c.requires.ends)

pub returns-in-Err-clause-err : goal.returns-in-Err-clause-err
returns-in-Err-clause-err g c = record { same = c.in-Err.ensures.err; published = refl; none = c.requires.none }

pub returns-in-Err-clause-book : goal.returns-in-Err-clause-book
returns-in-Err-clause-book g c = let kept = kept_shown c.args.book.now c.end_with.new.book c.end_with.ensures.book c.in-Err.ensures.err in kept.book g.K.Naming.names _ _ c.requires.book
