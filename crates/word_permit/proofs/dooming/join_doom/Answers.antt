-- The next generation is published, and the server makes the change.
use Rattle.std.proofs.Common.{◌+◌, ◌<◌, ◌≤◌, ◌^◌, ◌∷◌, [], ◌++◌, None, refl, sym, ap, subst, ◌∙◌, arith}
use Rattle.progress_words.specs.Tokens.{written_by}
use Rattle.server_core.specs.CommandTable.{Outcome}
use Rattle.run_log.specs.declared.logs.Entry.{Entry}
use Rattle.write_permit.specs.Agreement.{new_modules}
use Rattle.write_permit.specs.Book.{shown}
use Rattle.write_permit.specs.Permit.{PermitState}
use Rattle.word_permit.proofs.Dropped.{doom_joined, doom_tells, dooms_clear, dooms_kept, dooms_publish, dooms_renew, may_follow, published_book}
use Rattle.word_permit.proofs.Followed.{at_rest}
use Rattle.word_permit.proofs.Kept.{numbers_left, rests}
use Rattle.word_permit.proofs.Resting.{held_no_trace, purging_no_trace, rests_by}
use Rattle.word_permit.proofs.dooming.join_doom.Goals as goal

pub publish_same-requires-clause-tables : goal.publish_same-requires-clause-tables
publish_same-requires-clause-tables g c = c.requires.book.has.tables

pub publish_same-requires-clause-names : goal.publish_same-requires-clause-names
publish_same-requires-clause-names g c = c.requires.book.has.exports

pub publish_same-requires-clause-rest : goal.publish_same-requires-clause-rest
publish_same-requires-clause-rest g c = at_rest g.K.Naming.names (shown c.args.book.now.plain) c.args.book.now.tables c.args.book.now.waiting c.requires.none (held_no_trace c.args.book.now.plain.holder c.args.who c.requires.holds) c.requires.book.words

pub publish_same-requires-clause-fits : goal.publish_same-requires-clause-fits
publish_same-requires-clause-fits g c = c.requires.made.fits

pub publish_same-requires-clause-renewal : goal.publish_same-requires-clause-renewal
publish_same-requires-clause-renewal g c = dooms_renew c.args.decision.change c.requires.dooms

pub publish_same-requires-clause-clear : goal.publish_same-requires-clause-clear
publish_same-requires-clause-clear g c = dooms_clear c.args.decision.change _ c.requires.dooms

pub publish_same-requires-clause-room : goal.publish_same-requires-clause-room
publish_same-requires-clause-room g c =
    let room : c.args.book.now.plain.server.generation + 1 < 2 ^ 40 = omega (arith, c.in-Ok.ensures.numbers, c.generation-generation.ensures.value) in
    numbers_left g.K.Naming.names _ _ c.args.book.now c.requires.book.has room

pub finish_doom-requires-clause-fits : goal.finish_doom-requires-clause-fits
finish_doom-requires-clause-fits g c = c.requires.made.fits

pub finish_doom-requires-clause-can : goal.finish_doom-requires-clause-can
finish_doom-requires-clause-can g c =
    may_follow c.args.book.now.plain c.requires.book.has.book c.args.who c.args.decision c.requires.made c.take_room.new.modules c.take_room.ensures.table
    (subst (λ (e : Entry). new_modules e.cmd ≤ c.take_room.new.modules.room) c.entry_of-entry.ensures c.in-Ok.ensures.room) c.take_room.new.journal
    (c.in-Ok.ensures.ok ∙ ap (λ (e : Entry). c.args.book.now.plain.journal ++ e ∷ []) c.entry_of-entry.ensures)

pub returns-in-Ok-clause-ok : goal.returns-in-Ok-clause-ok
returns-in-Ok-clause-ok g c =
    let d =
    doom_joined c.args.book.now.plain c.requires.book.has.book c.args.who c.args.decision c.requires.made c.take_room.new.modules c.take_room.ensures.table
    (subst (λ (e : Entry). new_modules e.cmd ≤ c.take_room.new.modules.room) c.entry_of-entry.ensures c.in-Ok.ensures.room) c.take_room.new.journal
    (c.in-Ok.ensures.ok ∙ ap (λ (e : Entry). c.args.book.now.plain.journal ++ e ∷ []) c.entry_of-entry.ensures)
    c.args.code c.requires.holds c.requires.next c.requires.code c.requires.cmd c.finish_doom.new.book c.finish_doom.ensures in
    d.ok

pub returns-in-Ok-clause-book : goal.returns-in-Ok-clause-book
returns-in-Ok-clause-book g c =
    let keeps = dooms_kept c.args.book.now.plain.server c.args.decision.change _ _ c.args.decision.cmd c.requires.dooms (doom_tells c.args.book.now.plain.server (written_by c.args.book.now.tables.writer) (written_by c.args.book.now.tables.writer).looks c.args.decision.cmd c.args.code.«module» c.requires.cmd) c.publish_same.ensures.drop in
    let d =
    doom_joined c.args.book.now.plain c.requires.book.has.book c.args.who c.args.decision c.requires.made c.take_room.new.modules c.take_room.ensures.table
    (subst (λ (e : Entry). new_modules e.cmd ≤ c.take_room.new.modules.room) c.entry_of-entry.ensures c.in-Ok.ensures.room) c.take_room.new.journal
    (c.in-Ok.ensures.ok ∙ ap (λ (e : Entry). c.args.book.now.plain.journal ++ e ∷ []) c.entry_of-entry.ensures)
    c.args.code c.requires.holds c.requires.next c.requires.code c.requires.cmd c.finish_doom.new.book c.finish_doom.ensures in
    let p = c.publish_same.ensures.published in
    published_book g.K.Naming.names _ _ c.args.book.now c.requires.book.has c.args.who c.args.decision c.requires.made (dooms_publish c.args.book.now.plain.server c.args.decision.change c.requires.dooms)
    c.publish_same.new.tables c.publish_same.ensures.tables (c.publish_same.ensures.exports ∙ c.requires.book.has.exports) c.publish_same.ensures.notes c.publish_same.ensures.waits keeps p.next p.shows p.published
    (record (c.args.book.now) { plain = c.finish_doom.new.book; tables = c.publish_same.new.tables; look = None }) d.book
    (ap (λ (x : PermitState). x.script) c.finish_doom.ensures.state)
    (ap (λ (x : PermitState). x.journal) c.finish_doom.ensures.state ∙ c.in-Ok.ensures.ok ∙ ap (λ (e : Entry). c.args.book.now.plain.journal ++ e ∷ []) c.entry_of-entry.ensures)
    (ap (λ (o : Outcome). o.state) (sym c.finish_doom.ensures.made_is))
    refl refl refl c.requires.none
    (rests_by g.K.Naming.names c.finish_doom.new.book.holder _ c.publish_same.new.tables (purging_no_trace c.finish_doom.new.book.holder c.args.who c.args.code.«module» (ap (λ (x : PermitState). x.holder) c.finish_doom.ensures.state)) p.rest)

pub returns-in-Err-clause-err : goal.returns-in-Err-clause-err
returns-in-Err-clause-err g c = record { same = ap (λ js. record (shown c.args.book.now.plain) { journal = js }) c.in-Err.ensures.err; published = refl; none = c.requires.none }

pub returns-in-Err-clause-book : goal.returns-in-Err-clause-book
returns-in-Err-clause-book g c =
    rests g.K.Naming.names _ _ c.args.book.now (record (c.args.book.now) { plain = record (c.args.book.now.plain) { journal = c.take_room.new.journal; modules = c.take_room.new.modules }; look = None }) c.requires.book.has
    (ap (λ js. record (shown c.args.book.now.plain) { journal = js }) c.in-Err.ensures.err)
    c.take_room.ensures.table c.requires.book.has.tables c.requires.book.has.exports refl (record { notes = refl; looks = refl; waits = λ pair among. among; longer = omega (arith) }) refl c.requires.none refl (held_no_trace c.args.book.now.plain.holder c.args.who c.requires.holds)
    (at_rest g.K.Naming.names (shown c.args.book.now.plain) c.args.book.now.tables c.args.book.now.waiting c.requires.none (held_no_trace c.args.book.now.plain.holder c.args.who c.requires.holds) c.requires.book.words)
