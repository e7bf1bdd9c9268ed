-- After want of memory the words are at rest, and the loader gives the permission up unless its old code is doomed.
use Rattle.std.proofs.Common.{ap, ◌∙◌}
use Rattle.word_permit.specs.declared.book.WordBook.{WordBook}
use Rattle.word_permit.specs.Books.{HasTakenBack}
use Rattle.word_permit.proofs.Followed.{given_up_by, given_word_book}
use Rattle.word_permit.proofs.PurgeCalls.{grown_by, grown_given}
use Rattle.word_permit.proofs.purging.advance_purge.Goals as goal

pub returns-in-Ok-clause-grown : goal.returns-in-Ok-clause-grown
returns-in-Ok-clause-grown g c = grown_by c.args.who c.args.book.now c.go_on_purge.new.book c.in-Ok.step c.in-Ok.ensures.ok

pub returns-in-Err-clause-err : goal.returns-in-Err-clause-err
returns-in-Err-clause-err g c = given_up_by c.args.book.now c.go_on_purge.new.book c.give_up.new.book c.in-Err.ensures.err c.give_up.ensures

pub returns-in-Err-clause-grown : goal.returns-in-Err-clause-grown
returns-in-Err-clause-grown g c = grown_given c.args.book.now c.give_up.new.book (given_up_by c.args.book.now c.go_on_purge.new.book c.give_up.new.book c.in-Err.ensures.err c.give_up.ensures)

pub returns-in-Err-clause-book : goal.returns-in-Err-clause-book
returns-in-Err-clause-book g c =
    let e : HasTakenBack c.args.book.now c.go_on_purge.new.book = c.in-Err.ensures.err in
    given_word_book g.K.Naming.names _ _ c.go_on_purge.new.book c.give_up.new.book c.go_on_purge.ensures.book e.none c.give_up.ensures

pub returns-in-Err-clause-need : goal.returns-in-Err-clause-need
returns-in-Err-clause-need g c = ap (λ (x : WordBook). x.need) c.give_up.ensures ∙ c.go_on_purge.ensures.need
