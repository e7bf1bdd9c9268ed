-- The counter was loaded, and the value is the last that was taken.
use Rattle.std.proofs.Common.{Some, refl, ap, arith}
use Rattle.shared_words.specs.declared.view.WriterView.{WriterView}
use Rattle.progress_words.specs.Tokens.{written_by}
use Rattle.breakpoints.proofs.Others.{counted_loads}
use Rattle.word_permit.proofs.Looked.{looks_loaded, taken_last}
use Rattle.word_permit.proofs.Quiet.{book_looking}
use Rattle.word_permit.proofs.looking.take_look.Goals as goal

pub returns-clause-same : goal.returns-clause-same
returns-clause-same g c =
    let more = counted_loads (written_by c.args.book.now.tables.writer) (written_by c.later-value.new.writer) c.later-value.ensures.loaded in
    record { plain = refl; published = ap (λ (w : WriterView). w.published) c.later-value.ensures.loaded.view; waiting = refl; longer = omega (arith, more) }

pub returns-clause-looks : goal.returns-clause-looks
returns-clause-looks g c = looks_loaded (written_by c.args.book.now.tables.writer) (written_by c.later-value.new.writer) c.later-value.ensures.loaded

pub returns-clause-book : goal.returns-clause-book
returns-clause-book g c =
    book_looking g.K.Naming.names _ _ c.args.book.now c.later-value.new.writer c.requires.book c.counters_keep_index.ensures c.counters_keep_tables.ensures c.counters_keep_pools.ensures c.later-value.ensures.token c.later-value.ensures.loaded
    (Some c.later-value.result) (taken_last (written_by c.args.book.now.tables.writer) (written_by c.later-value.new.writer) c.later-value.result c.later-value.ensures.loaded c.later-value.ensures.need)
