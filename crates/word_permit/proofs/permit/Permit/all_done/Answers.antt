-- The permit shows what its book has.
use Rattle.std.proofs.Common.{◌≡◌, ◌↔◌, ℕ, None, IsTrue, subst}
use Rattle.write_permit.specs.Book.{shown}
use Rattle.write_permit.specs.Permit.{next_of}
use Rattle.word_permit.specs.declared.book.WordBook.{WordBook}
use Rattle.word_permit.proofs.Runs.{book_of_run}
use Rattle.word_permit.proofs.permit.Permit.all_done.Goals as goal

pub all_done-requires : goal.all_done-requires
all_done-requires g c = book_of_run g.K.Naming.names g.N.RunName.run _ c.self.invariant

pub returns : goal.returns
returns g c = subst (λ (b : WordBook). IsTrue c.all_done.result ↔ ((loader : ℕ) → next_of (shown b.plain) loader ≡ None)) c.self.view_is c.all_done.ensures
