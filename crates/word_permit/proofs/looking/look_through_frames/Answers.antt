-- Anchors and turn words were looked at.
use Rattle.std.proofs.Common.{refl, ap}
use Rattle.shared_words.specs.declared.view.WriterView.{WriterView}
use Rattle.progress_words.specs.Tokens.{written_by}
use Rattle.staging.proofs.Known.{longer_same}
use Rattle.word_permit.proofs.Looked.{found_newest, look_may, some_published, wait_newest, wait_over}
use Rattle.word_permit.proofs.PurgeCalls.{gone_now}
use Rattle.word_permit.proofs.Quiet.{book_looked}
use Rattle.word_permit.proofs.looking.look_through_frames.Goals as goal

pub scan-requires-clause-token : goal.scan-requires-clause-token
scan-requires-clause-token g c = c.requires.book.has.tables.token

pub scan-requires-clause-may : goal.scan-requires-clause-may
scan-requires-clause-may g c =
    look_may (written_by c.args.book.now.tables.writer) (some_published c.requires.book.has.tables) c.requires.reached c.args.serial (gone_now g.K.Naming.names _ _ c.args.book.now c.args._module.0 c.args.serial c.requires.book c.requires.none c.requires.code)

pub returns-clause-found : goal.returns-clause-found
returns-clause-found g c =
    found_newest (written_by c.args.book.now.tables.writer) (written_by c.scan.new.writer) c.args.serial c.scan.result
    (wait_newest (written_by c.args.book.now.tables.writer) (some_published c.requires.book.has.tables) c.requires.reached c.args.serial (gone_now g.K.Naming.names _ _ c.args.book.now c.args._module.0 c.args.serial c.requires.book c.requires.none c.requires.code))
    (wait_over (written_by c.args.book.now.tables.writer) (some_published c.requires.book.has.tables) c.requires.reached c.args.serial (gone_now g.K.Naming.names _ _ c.args.book.now c.args._module.0 c.args.serial c.requires.book c.requires.none c.requires.code))
    c.scan.ensures.more c.scan.ensures.cause

pub returns-clause-same : goal.returns-clause-same
returns-clause-same g c = record {
  plain = refl;
  published = ap (λ (w : WriterView). w.published) c.scan.ensures.more.same;
  waiting = refl;
  longer = longer_same (written_by c.args.book.now.tables.writer) (written_by c.scan.new.writer) (ap (λ (w : WriterView). w.pairs) c.scan.ensures.more.same);
}

pub returns-clause-book : goal.returns-clause-book
returns-clause-book g c = book_looked g.K.Naming.names _ _ c.args.book.now c.scan.new.writer c.requires.book c.looks_keep_pools.ensures c.scan.ensures.token c.scan.ensures.more
