-- The answer is kept among the looks, or nothing is.
use Rattle.std.proofs.Common.{refl, ap}
use Rattle.shared_words.specs.declared.view.WriterView.{WriterView}
use Rattle.shared_words.specs.Lingering.{lingering_of}
use Rattle.shared_words.specs.Seats.{writer_of}
use Rattle.progress_words.specs.Tokens.{written_by}
use Rattle.staging.proofs.Known.{longer_same}
use Rattle.word_permit.proofs.Looked.{linger_same}
use Rattle.word_permit.proofs.Lingered.{book_lingered, if_kept, if_left, if_lingers, may_linger}
use Rattle.word_permit.proofs.looking.keep_lingering.Goals as goal

pub load_lingering-word-requires-clause-token : goal.load_lingering-word-requires-clause-token
load_lingering-word-requires-clause-token g c = c.requires.book.has.tables.token

pub load_lingering-word-requires-clause-process : goal.load_lingering-word-requires-clause-process
load_lingering-word-requires-clause-process g c = c.requires.found.1.cause.0

pub load_lingering-word-requires-clause-place : goal.load_lingering-word-requires-clause-place
load_lingering-word-requires-clause-place g c = (c.requires.found.1.cause.1.first, c.requires.found.1.cause.1.last)

pub load_lingering-word-requires-clause-looked : goal.load_lingering-word-requires-clause-looked
load_lingering-word-requires-clause-looked g c = may_linger (written_by c.args.book.now.tables.writer) c.args.serial c.args.process c.args.turn c.args.place c.args._word c.requires.found

pub returns-clause-kept : goal.returns-clause-kept
returns-clause-kept g c =
    if_kept (written_by c.args.book.now.tables.writer) (written_by c.load_lingering-word.new.writer) c.load_lingering-word.result c.args.serial c.args.process c.args.turn c.args.place c.args._word c.requires.found (ap writer_of c.load_lingering-word.ensures.view) c.named_by.result c.named_by.ensures

pub returns-clause-lingers : goal.returns-clause-lingers
returns-clause-lingers g c =
    if_lingers (written_by c.args.book.now.tables.writer) (written_by c.load_lingering-word.new.writer) c.load_lingering-word.result c.args.serial c.args.process c.args.turn c.args.place (ap writer_of c.load_lingering-word.ensures.view) c.named_by.result c.named_by.ensures

pub returns-clause-left : goal.returns-clause-left
returns-clause-left g c =
    if_left (written_by c.args.book.now.tables.writer) (written_by c.load_lingering-word.new.writer) c.load_lingering-word.result c.args.serial c.args.process c.args.turn c.args.place (ap writer_of c.load_lingering-word.ensures.view) c.named_by.result c.named_by.ensures

pub returns-clause-same : goal.returns-clause-same
returns-clause-same g c =
    let same = linger_same c.args.place c.load_lingering-word.result (lingering_of (written_by c.args.book.now.tables.writer) c.args.process c.args.serial c.args.turn) (written_by c.args.book.now.tables.writer) (written_by c.load_lingering-word.new.writer) (ap writer_of c.load_lingering-word.ensures.view) in
    record {
      plain = refl;
      published = ap (λ (w : WriterView). w.published) same;
      waiting = refl;
      longer = longer_same (written_by c.args.book.now.tables.writer) (written_by c.load_lingering-word.new.writer) (ap (λ (w : WriterView). w.pairs) same);
    }

pub returns-clause-book : goal.returns-clause-book
returns-clause-book g c =
    book_lingered g.K.Naming.names _ _ c.args.book.now c.load_lingering-word.new.writer c.requires.book c.looks_keep_pools.ensures c.load_lingering-word.ensures.token c.args.place c.load_lingering-word.result
    (lingering_of (written_by c.args.book.now.tables.writer) c.args.process c.args.serial c.args.turn) (ap writer_of c.load_lingering-word.ensures.view)
