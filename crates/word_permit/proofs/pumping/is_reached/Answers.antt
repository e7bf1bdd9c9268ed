-- The counter was loaded, and nothing else.
use Rattle.std.proofs.Common.{refl, ap}
use Rattle.shared_words.specs.declared.view.WriterView.{WriterView}
use Rattle.progress_words.specs.Tokens.{written_by}
use Rattle.breakpoints.proofs.Others.{counted_loads}
use Rattle.word_permit.proofs.Awaiting.{awaited_still, reached_begins, waits_loaded}
use Rattle.word_permit.proofs.Looked.{looks_loaded}
use Rattle.word_permit.proofs.Quiet.{book_asked}
use Rattle.word_permit.proofs.pumping.is_reached.Goals as goal

pub returns-clause-ok : goal.returns-clause-ok
returns-clause-ok g c = reached_begins c.reached.result (written_by c.args.book.now.tables.writer) (written_by c.reached.new.writer) c.args.need c.requires.awaited c.reached.ensures.loaded c.reached.ensures.ok

pub returns-clause-awaited : goal.returns-clause-awaited
returns-clause-awaited g c =
    awaited_still (written_by c.args.book.now.tables.writer) (written_by c.reached.new.writer) c.args.need (waits_loaded _ _ c.reached.ensures.loaded) (ap (λ (w : WriterView). w.published) c.reached.ensures.loaded.view) c.requires.awaited

pub returns-clause-none_released : goal.returns-clause-none_released
returns-clause-none_released g c = record { same = refl; pools = refl; published = ap (λ (w : WriterView). w.published) c.reached.ensures.loaded.view; staged = record { index = refl; terms = refl; patch = refl }; waiting = refl; look = refl }

pub returns-clause-loads : goal.returns-clause-loads
returns-clause-loads g c = counted_loads (written_by c.args.book.now.tables.writer) (written_by c.reached.new.writer) c.reached.ensures.loaded

pub returns-clause-looks : goal.returns-clause-looks
returns-clause-looks g c = looks_loaded (written_by c.args.book.now.tables.writer) (written_by c.reached.new.writer) c.reached.ensures.loaded

pub returns-clause-book : goal.returns-clause-book
returns-clause-book g c =
    book_asked g.K.Naming.names _ _ c.args.book.now c.reached.new.writer c.requires.book c.counters_keep_index.ensures c.counters_keep_tables.ensures c.counters_keep_pools.ensures c.reached.ensures.token c.reached.ensures.loaded
