-- The counter was loaded, and nothing else.
use Rattle.std.proofs.Common.{refl, ap, arith}
use Rattle.shared_words.specs.declared.view.WriterView.{WriterView}
use Rattle.progress_words.specs.Tokens.{written_by}
use Rattle.breakpoints.proofs.Others.{counted_loads}
use Rattle.word_permit.proofs.Looked.{last_loaded, looks_loaded}
use Rattle.word_permit.proofs.PurgeCalls.{value_late, value_reached, value_taken}
use Rattle.word_permit.proofs.Quiet.{book_asked}
use Rattle.word_permit.proofs.looking.is_look_reached.Goals as goal

pub returns-clause-ok : goal.returns-clause-ok
returns-clause-ok g c =
    value_reached c.reached.result (written_by c.reached.new.writer) c.args.value
    (last_loaded (written_by c.args.book.now.tables.writer) (written_by c.reached.new.writer) c.args.value c.reached.ensures.loaded (value_taken g.K.Naming.names _ _ c.args.book.now c.args.value c.requires.book c.requires.look))
    c.reached.ensures.ok

pub returns-clause-late : goal.returns-clause-late
returns-clause-late g c =
    value_late c.reached.result _ c.args.value c.requires.look
    (last_loaded (written_by c.args.book.now.tables.writer) (written_by c.reached.new.writer) c.args.value c.reached.ensures.loaded (value_taken g.K.Naming.names _ _ c.args.book.now c.args.value c.requires.book c.requires.look))
    c.reached.ensures.below

pub returns-clause-same : goal.returns-clause-same
returns-clause-same g c =
    let more = counted_loads (written_by c.args.book.now.tables.writer) (written_by c.reached.new.writer) c.reached.ensures.loaded in
    record { plain = refl; published = ap (λ (w : WriterView). w.published) c.reached.ensures.loaded.view; waiting = refl; longer = omega (arith, more) }

pub returns-clause-loads : goal.returns-clause-loads
returns-clause-loads g c = counted_loads (written_by c.args.book.now.tables.writer) (written_by c.reached.new.writer) c.reached.ensures.loaded

pub returns-clause-looks : goal.returns-clause-looks
returns-clause-looks g c = looks_loaded (written_by c.args.book.now.tables.writer) (written_by c.reached.new.writer) c.reached.ensures.loaded

pub returns-clause-book : goal.returns-clause-book
returns-clause-book g c =
    book_asked g.K.Naming.names _ _ c.args.book.now c.reached.new.writer c.requires.book c.counters_keep_index.ensures c.counters_keep_tables.ensures c.counters_keep_pools.ensures c.reached.ensures.token c.reached.ensures.loaded
