-- The counter was loaded, and nothing else.
use Rattle.std.proofs.Common.{refl, ap, arith}
use Rattle.shared_words.specs.declared.view.WriterView.{WriterView}
use Rattle.progress_words.specs.Tokens.{written_by}
use Rattle.breakpoints.proofs.Others.{counted_loads}
use Rattle.staging.proofs.Known.{known_loaded}
use Rattle.word_permit.proofs.Awaiting.{counter_rises, need_taken}
use Rattle.word_permit.proofs.Looked.{looks_loaded}
use Rattle.word_permit.proofs.Quiet.{book_loaded, look_asked}
use Rattle.word_permit.proofs.pumping.take_need.Goals as goal

pub returns-clause-awaited : goal.returns-clause-awaited
returns-clause-awaited g c = need_taken g.K.Naming.names _ _ c.args.book.now (written_by c.later-value.new.writer) _ c.requires.book c.requires.waits c.later-value.ensures.loaded c.later-value.ensures.taken

pub returns-clause-known : goal.returns-clause-known
returns-clause-known g c = known_loaded (written_by c.args.book.now.tables.writer) (written_by c.later-value.new.writer) c.later-value.ensures.loaded

pub returns-clause-longer : goal.returns-clause-longer
returns-clause-longer g c =
    let more = counted_loads (written_by c.args.book.now.tables.writer) (written_by c.later-value.new.writer) c.later-value.ensures.loaded in
    omega (arith, more)

pub returns-clause-looks : goal.returns-clause-looks
returns-clause-looks g c = looks_loaded (written_by c.args.book.now.tables.writer) (written_by c.later-value.new.writer) c.later-value.ensures.loaded

pub returns-clause-counter : goal.returns-clause-counter
returns-clause-counter g c = counter_rises (written_by c.args.book.now.tables.writer) (written_by c.later-value.new.writer) c.later-value.ensures.loaded

pub returns-clause-none_released : goal.returns-clause-none_released
returns-clause-none_released g c = record { same = refl; pools = refl; published = ap (λ (w : WriterView). w.published) c.later-value.ensures.loaded.view; staged = record { index = refl; terms = refl; patch = refl }; waiting = refl; look = refl }

pub returns-clause-book : goal.returns-clause-book
returns-clause-book g c =
    book_loaded g.K.Naming.names _ _ c.args.book.now c.later-value.new.writer c.requires.book c.counters_keep_index.ensures c.counters_keep_tables.ensures c.counters_keep_pools.ensures c.later-value.ensures.token c.later-value.ensures.loaded _ _
    (need_taken g.K.Naming.names _ _ c.args.book.now (written_by c.later-value.new.writer) _ c.requires.book c.requires.waits c.later-value.ensures.loaded c.later-value.ensures.taken)
    (look_asked g.K.Naming.names _ _ c.args.book.now c.later-value.new.writer c.requires.book c.counters_keep_index.ensures c.counters_keep_tables.ensures c.counters_keep_pools.ensures c.later-value.ensures.token c.later-value.ensures.loaded)
