-- The permit shows what its book has.
use Rattle.std.proofs.Common.{◌≡◌, subst}
use Rattle.std.specs.Option.{option_copied}
use Rattle.write_permit.specs.Book.{shown}
use Rattle.write_permit.specs.Permit.{next_of}
use Rattle.word_permit.specs.declared.book.WordBook.{WordBook}
use Rattle.word_permit.proofs.Runs.{many_of_run}
use Rattle.word_permit.proofs.permit.Permit.next_command.Goals as goal

pub next_command-requires : goal.next_command-requires
next_command-requires g c = many_of_run g.K.Naming.names g.N.RunName.run _ c.self.invariant

pub returns : goal.returns
returns g c = subst (λ (b : WordBook). option_copied c.next_command.result ≡ next_of (shown b.plain) c.args.who) c.self.view_is c.next_command.ensures.next
