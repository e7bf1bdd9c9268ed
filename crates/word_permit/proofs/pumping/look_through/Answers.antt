-- Words of slots were loaded, and nothing else.
use Rattle.std.proofs.Common.{refl, ap}
use Rattle.shared_words.specs.declared.view.WriterView.{WriterView}
use Rattle.progress_words.specs.Tokens.{written_by}
use Rattle.word_permit.proofs.AreaLooks.{looks_found}
use Rattle.word_permit.proofs.Quiet.{book_looked}
use Rattle.word_permit.proofs.pumping.look_through.Goals as goal

pub scan-requires-clause-token : goal.scan-requires-clause-token
scan-requires-clause-token g c = c.requires.book.has.tables.token

pub returns-clause-found : goal.returns-clause-found
returns-clause-found g c = looks_found c.args.serial (written_by c.args.book.now.tables.writer) (written_by c.scan.new.writer) c.scan.result c.requires.may c.scan.ensures.more c.scan.ensures.cause

pub returns-clause-none_released : goal.returns-clause-none_released
returns-clause-none_released g c = record { same = refl; pools = refl; published = ap (λ (w : WriterView). w.published) c.scan.ensures.more.same; staged = record { index = refl; terms = refl; patch = refl }; waiting = refl; look = refl }

pub returns-clause-book : goal.returns-clause-book
returns-clause-book g c = book_looked g.K.Naming.names _ _ c.args.book.now c.scan.new.writer c.requires.book c.looks_keep_pools.ensures c.scan.ensures.token c.scan.ensures.more
