-- No look is waited for; after want of memory the words are at rest, and the loader gives the permission up.
use Rattle.std.proofs.Common.{ap, ◌∙◌}
use Rattle.word_permit.specs.declared.book.WordBook.{WordBook}
use Rattle.word_permit.proofs.Followed.{answers_unlooked, given_up_by, given_word_book, taken_unlooked, unlooked}
use Rattle.word_permit.proofs.operations.advance.Goals as goal

pub go_on-requires-clause-book : goal.go_on-requires-clause-book
go_on-requires-clause-book g c = unlooked g.K.Naming.names _ _ c.args.book.now c.requires.book

pub returns-in-Ok-clause-ok : goal.returns-in-Ok-clause-ok
returns-in-Ok-clause-ok g c = answers_unlooked c.args.who c.args.book.now c.go_on.new.book c.in-Ok.step c.in-Ok.ensures.ok

pub returns-in-Err-clause-err : goal.returns-in-Err-clause-err
returns-in-Err-clause-err g c = given_up_by c.args.book.now c.go_on.new.book c.give_up.new.book (taken_unlooked c.args.book.now c.go_on.new.book c.in-Err.ensures.err) c.give_up.ensures

pub returns-in-Err-clause-book : goal.returns-in-Err-clause-book
returns-in-Err-clause-book g c =
    let e = taken_unlooked c.args.book.now c.go_on.new.book c.in-Err.ensures.err in
    given_word_book g.K.Naming.names _ _ c.go_on.new.book c.give_up.new.book c.go_on.ensures.book e.none c.give_up.ensures

pub returns-in-Err-clause-need : goal.returns-in-Err-clause-need
returns-in-Err-clause-need g c = ap (λ (x : WordBook). x.need) c.give_up.ensures ∙ c.go_on.ensures.need
