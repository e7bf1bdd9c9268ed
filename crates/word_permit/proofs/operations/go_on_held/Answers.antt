-- What waits is taken out of the book, and goes on; else the loader's next command begins.
use Rattle.std.proofs.Common.{sym}
use Rattle.write_permit.specs.Book.{shown}
use Rattle.word_permit.proofs.Followed.{answers_begun, answers_waiting, at_rest, err_without, has_without, waits_for}
use Rattle.word_permit.proofs.Resting.{held_no_trace}
use Rattle.word_permit.proofs.operations.go_on_held.Goals as goal

pub go_on_waiting-requires-clause-tables : goal.go_on_waiting-requires-clause-tables
go_on_waiting-requires-clause-tables g c = has_without g.K.Naming.names _ _ c.args.book.now _ c.requires.book.has

pub go_on_waiting-requires-clause-decided : goal.go_on_waiting-requires-clause-decided
go_on_waiting-requires-clause-decided g c =
    let w = waits_for g.K.Naming.names (shown c.args.book.now.plain) c.args.book.now.tables c.args.book.now.waiting c.args.who c.in-Some.waiting c.requires.holds (sym c.in-Some.ensures.value) c.requires.book.words in
    w.decided

pub go_on_waiting-requires-clause-staged : goal.go_on_waiting-requires-clause-staged
go_on_waiting-requires-clause-staged g c =
    let w = waits_for g.K.Naming.names (shown c.args.book.now.plain) c.args.book.now.tables c.args.book.now.waiting c.args.who c.in-Some.waiting c.requires.holds (sym c.in-Some.ensures.value) c.requires.book.words in
    w.staged

pub go_on_waiting-requires-clause-stands : goal.go_on_waiting-requires-clause-stands
go_on_waiting-requires-clause-stands g c =
    let w = waits_for g.K.Naming.names (shown c.args.book.now.plain) c.args.book.now.tables c.args.book.now.waiting c.args.who c.in-Some.waiting c.requires.holds (sym c.in-Some.ensures.value) c.requires.book.words in
    w.stands

pub begin-requires-clause-tables : goal.begin-requires-clause-tables
begin-requires-clause-tables g c = has_without g.K.Naming.names _ _ c.args.book.now _ c.requires.book.has

pub begin-requires-clause-rest : goal.begin-requires-clause-rest
begin-requires-clause-rest g c =
    at_rest g.K.Naming.names (shown c.args.book.now.plain) c.args.book.now.tables c.args.book.now.waiting (sym c.in-None.ensures.value) (held_no_trace c.args.book.now.plain.holder c.args.who c.requires.holds) c.requires.book.words

pub returns-in-Some-clause-ok : goal.returns-in-Some-clause-ok
returns-in-Some-clause-ok g c = answers_waiting c.args.who c.args.book.now _ c.go_on_waiting.new.book c.go_on_waiting.result c.in-Some.waiting (sym c.in-Some.ensures.value) c.go_on_waiting.ensures.decision c.go_on_waiting.ensures.forward c.go_on_waiting.ensures.ok

pub returns-in-Some-clause-err : goal.returns-in-Some-clause-err
returns-in-Some-clause-err g c = err_without c.go_on_waiting.result c.args.book.now _ c.go_on_waiting.new.book c.go_on_waiting.ensures.err

pub returns-in-None-clause-ok : goal.returns-in-None-clause-ok
returns-in-None-clause-ok g c = answers_begun c.args.who c.args.book.now _ c.begin.new.book c.begin.result (sym c.in-None.ensures.value) c.begin.ensures.ok

pub returns-in-None-clause-err : goal.returns-in-None-clause-err
returns-in-None-clause-err g c = err_without c.begin.result c.args.book.now _ c.begin.new.book c.begin.ensures.err
