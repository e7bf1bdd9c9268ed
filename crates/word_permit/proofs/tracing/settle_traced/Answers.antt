-- The switch is over, or it waits for a value of its patch.
use Rattle.std.proofs.Common.{ap}
use Rattle.write_permit.specs.Permit.{PermitState}
use Rattle.word_permit.proofs.Switched.{book_settled, book_waits, is_switching, none_else, settle_room, settle_waits}
use Rattle.word_permit.proofs.tracing.settle_traced.Goals as goal

pub settle-requires-clause-tables : goal.settle-requires-clause-tables
settle-requires-clause-tables g c = c.requires.book.has.tables

pub settle-requires-clause-settling : goal.settle-requires-clause-settling
settle-requires-clause-settling g c =
    let k = is_switching g.K.Naming.names _ _ c.args.book.now c.requires.book c.requires.look c.args.who c.args.generation c.requires.traces in
    (c.args.book.now.plain.server, k.settling)

pub settle-requires-clause-room : goal.settle-requires-clause-room
settle-requires-clause-room g c = settle_room g.K.Naming.names _ _ c.args.book.now c.requires.book c.requires.look c.args.who c.args.generation c.requires.traces

pub returns-in-Ok-clause-answers : goal.returns-in-Ok-clause-answers
returns-in-Ok-clause-answers g c = record { step = c.settle-in-Ok.ensures.ok; script = ap (λ (x : PermitState). x.script) c.settle-in-Ok.ensures.state }

pub returns-in-Ok-clause-none : goal.returns-in-Ok-clause-none
returns-in-Ok-clause-none g c = none_else g.K.Naming.names _ _ c.args.book.now c.requires.book c.requires.look c.args.who c.args.generation c.requires.traces

pub returns-in-Ok-clause-book : goal.returns-in-Ok-clause-book
returns-in-Ok-clause-book g c =
    book_settled g.K.Naming.names _ _ c.args.book.now c.requires.book c.requires.look c.args.who c.args.generation c.requires.traces c.settle.new.tables c.settle.ensures.tables c.settle.ensures.exports c.settle.ensures.published c.settle.ensures.known
    c.in-Ok.ensures.rest c.settle-in-Ok.new.book _ c.settle-in-Ok.ensures.book c.settle-in-Ok.ensures.state

pub returns-in-Err-clause-answers : goal.returns-in-Err-clause-answers
returns-in-Err-clause-answers g c =
    settle_waits g.K.Naming.names _ _ c.args.book.now c.requires.book c.requires.look c.args.who c.args.generation c.requires.traces c.settle.new.tables c.settle.ensures.tables c.settle.ensures.exports c.settle.ensures.published c.settle.ensures.known
    c.in-Err.answer c.settle.ensures.need c.in-Err.ensures.waits

pub returns-in-Err-clause-none : goal.returns-in-Err-clause-none
returns-in-Err-clause-none g c = none_else g.K.Naming.names _ _ c.args.book.now c.requires.book c.requires.look c.args.who c.args.generation c.requires.traces

pub returns-in-Err-clause-book : goal.returns-in-Err-clause-book
returns-in-Err-clause-book g c =
    book_waits g.K.Naming.names _ _ c.args.book.now c.requires.book c.requires.look c.args.who c.args.generation c.requires.traces c.settle.new.tables c.settle.ensures.tables c.settle.ensures.exports c.settle.ensures.published c.settle.ensures.known
    c.in-Err.answer c.in-Err.ensures.waits
