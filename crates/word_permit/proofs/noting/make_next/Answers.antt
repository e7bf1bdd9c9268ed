-- The command leaves the server and the next commands of other loaders, and then the note of its process is split.
use Rattle.std.proofs.Common.{refl}
use Rattle.word_permit.proofs.Calls.{made_at_once}
use Rattle.word_permit.proofs.Noted.{book_after}
use Rattle.word_permit.proofs.noting.make_next.Goals as goal

pub noted-spawned-requires-clause-may : goal.noted-spawned-requires-clause-may
noted-spawned-requires-clause-may g c =
    let m =
    made_at_once g.K.Naming.names c.args.shared.now.table.shared.table_id c.args.shared.now.table.shared.key c.args.book.now c.make_at_once.new.book c.args.who c.in_ok-made.made c.requires.book c.requires.next c.make_at_once.ensures.book c.in_ok-made.ensures.ok
    c.in_ok-made.ensures.spawned in
    m.may

pub returns-clause-book : goal.returns-clause-book
returns-clause-book g c =
    let m =
    made_at_once g.K.Naming.names c.args.shared.now.table.shared.table_id c.args.shared.now.table.shared.key c.args.book.now c.make_at_once.new.book c.args.who c.in_ok-made.made c.requires.book c.requires.next c.make_at_once.ensures.book c.in_ok-made.ensures.ok
    c.in_ok-made.ensures.spawned in
    book_after g.K.Naming.names _ _ (record (c.args.book.now) { plain = c.make_at_once.new.book }) c.noted-spawned.new.writer c.noted-spawned.ensures.token c.notes_keep_index.ensures c.notes_keep_tables.ensures c.notes_keep_pools.ensures
    c.in_ok-made.made.1 c.noted-spawned.ensures.none c.noted-spawned.ensures.view m.spawned m.others m.book

pub returns-clause-waits : goal.returns-clause-waits
returns-clause-waits g c = record { waiting = refl; need = refl; look = refl }

pub returns-in_err-made-clause-waits : goal.returns-in_err-made-clause-waits
returns-in_err-made-clause-waits g c = record { waiting = refl; need = refl; look = refl }
