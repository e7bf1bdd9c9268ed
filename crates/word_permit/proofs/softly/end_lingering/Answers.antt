-- The old code stays, and the entry tells who lingers in it.
use Rattle.progress_words.specs.Tokens.{written_by}
use Rattle.word_permit.proofs.PurgeCommands.{held_holds, linger_ends, linger_leaves, linger_tells}
use Rattle.word_permit.proofs.softly.end_lingering.Goals as goal

pub end_quietly-requires-clause-holds : goal.end_quietly-requires-clause-holds
end_quietly-requires-clause-holds g c = held_holds c.args.book.now.plain c.args.who c.requires.holds

pub end_quietly-requires-clause-ends : goal.end_quietly-requires-clause-ends
end_quietly-requires-clause-ends g c = linger_ends c.args.book.now.plain c.args.who c.args.code.«module» c.requires.holds c.args.code.serial c.args.linger c.requires.next c.requires.code

pub end_quietly-requires-clause-leaves : goal.end_quietly-requires-clause-leaves
end_quietly-requires-clause-leaves g c = linger_leaves c.args.book.now.plain.script.modules c.args.book.now.plain.server c.args.code.«module» c.args.code.serial c.args.linger c.requires.code

pub end_quietly-requires-clause-told : goal.end_quietly-requires-clause-told
end_quietly-requires-clause-told g c = linger_tells c.args.book.now.plain.server (written_by c.args.book.now.tables.writer) _ c.args.code.«module» c.args.code.serial c.args.linger c.requires.code c.requires.lingers
