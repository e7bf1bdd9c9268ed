-- Nothing is loaded, no entry is there, and nobody has the permission.
use Rattle.std.proofs.Common.{refl}
use Rattle.write_permit.proofs.Begun.{begun_book}
use Rattle.write_permit.proofs.book.begin.Goals as goal

pub returns-clause-book : goal.returns-clause-book
returns-clause-book c = begun_book _ c.requires c.in_ok-loaders.ensures c.in_ok-new.ensures.empty c.new-3.ensures refl c.in_ok-new-2.ensures
