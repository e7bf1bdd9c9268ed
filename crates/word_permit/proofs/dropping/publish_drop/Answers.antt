-- The next generation is published, and the server makes the change.
use Rattle.std.proofs.Common.{◌+◌, ◌<◌, ◌≤◌, ◌^◌, ◌∷◌, [], ◌++◌, None, refl, sym, ap, subst, ◌∙◌, arith}
use Rattle.server_core.specs.CommandTable.{Outcome}
use Rattle.run_log.specs.declared.logs.Entry.{Entry}
use Rattle.write_permit.specs.Agreement.{new_modules}
use Rattle.write_permit.specs.Book.{shown}
use Rattle.write_permit.specs.Permit.{PermitState}
use Rattle.write_permit.proofs.EndBooks.{next_there}
use Rattle.word_permit.proofs.Dropped.{drop_made, drops_clear, drops_kept, drops_looks, drops_publish, drops_renew, may_follow, published_book}
use Rattle.word_permit.proofs.Followed.{at_rest}
use Rattle.word_permit.proofs.Kept.{numbers_left, rests}
use Rattle.word_permit.proofs.Replies.{ended_reply}
use Rattle.word_permit.proofs.Resting.{ends_no_trace, free_no_trace, rests_by}
use Rattle.word_permit.proofs.dropping.publish_drop.Goals as goal

pub after_next-after-requires-clause-book : goal.after_next-after-requires-clause-book
after_next-after-requires-clause-book g c = c.requires.book.has.book

pub after_next-after-requires-clause-next : goal.after_next-after-requires-clause-next
after_next-after-requires-clause-next g c = next_there c.args.book.now.plain c.requires.book.has.book c.args.who c.args.decision.cmd c.requires.ends

pub publish_same-requires-clause-tables : goal.publish_same-requires-clause-tables
publish_same-requires-clause-tables g c = c.requires.book.has.tables

pub publish_same-requires-clause-names : goal.publish_same-requires-clause-names
publish_same-requires-clause-names g c = c.requires.book.has.exports

pub publish_same-requires-clause-rest : goal.publish_same-requires-clause-rest
publish_same-requires-clause-rest g c = at_rest g.K.Naming.names (shown c.args.book.now.plain) c.args.book.now.tables c.args.book.now.waiting c.requires.none (ends_no_trace (shown c.args.book.now.plain) c.args.who c.args.decision.cmd c.requires.ends) c.requires.book.words

pub publish_same-requires-clause-fits : goal.publish_same-requires-clause-fits
publish_same-requires-clause-fits g c = c.requires.made.fits

pub publish_same-requires-clause-renewal : goal.publish_same-requires-clause-renewal
publish_same-requires-clause-renewal g c = drops_renew c.args.decision.change c.args._serial c.requires.drops

pub publish_same-requires-clause-clear : goal.publish_same-requires-clause-clear
publish_same-requires-clause-clear g c = drops_clear c.args.decision.change c.args._serial _ c.requires.drops c.requires.clear

pub publish_same-requires-clause-room : goal.publish_same-requires-clause-room
publish_same-requires-clause-room g c =
    let room : c.args.book.now.plain.server.generation + 1 < 2 ^ 40 = omega (arith, c.in-Ok.ensures.numbers, c.generation-generation.ensures.value) in
    numbers_left g.K.Naming.names _ _ c.args.book.now c.requires.book.has room

pub finish_change-answer-requires-clause-fits : goal.finish_change-answer-requires-clause-fits
finish_change-answer-requires-clause-fits g c = c.requires.made.fits

pub finish_change-answer-requires-clause-can : goal.finish_change-answer-requires-clause-can
finish_change-answer-requires-clause-can g c =
    may_follow c.args.book.now.plain c.requires.book.has.book c.args.who c.args.decision c.requires.made c.take_room.new.modules c.take_room.ensures.table
    (subst (λ (e : Entry). new_modules e.cmd ≤ c.take_room.new.modules.room) c.entry_of-entry.ensures c.in-Ok.ensures.room) c.take_room.new.journal
    (c.in-Ok.ensures.ok ∙ ap (λ (e : Entry). c.args.book.now.plain.journal ++ e ∷ []) c.entry_of-entry.ensures)

pub returns-in-Ok-clause-ok : goal.returns-in-Ok-clause-ok
returns-in-Ok-clause-ok g c =
    let keeps = drops_kept c.args.book.now.plain.server c.args.decision.change c.args._serial _ _ c.args.decision.cmd c.requires.drops c.requires.told c.publish_same.ensures.drop in
    let d =
    drop_made c.args.book.now.plain c.requires.book.has.book c.args.who c.args.decision c.requires.made c.take_room.new.modules c.take_room.ensures.table
    (subst (λ (e : Entry). new_modules e.cmd ≤ c.take_room.new.modules.room) c.entry_of-entry.ensures c.in-Ok.ensures.room) c.take_room.new.journal
    (c.in-Ok.ensures.ok ∙ ap (λ (e : Entry). c.args.book.now.plain.journal ++ e ∷ []) c.entry_of-entry.ensures)
    c.requires.holds c.requires.ends c.finish_change-answer.new.book c.after_next-after.result c.finish_change-answer.result c.finish_change-answer.ensures c.after_next-after.ensures.counted in
    record {
      ends = c.requires.ends;
      step = d.ok;
      reply = ended_reply (shown c.args.book.now.plain) (shown c.finish_change-answer.new.book) c.args.who c.args.decision.cmd c.finish_change-answer.result d.ok;
      told = keeps.told;
      none = c.requires.none;
    }

pub returns-in-Ok-clause-dropped : goal.returns-in-Ok-clause-dropped
returns-in-Ok-clause-dropped g c = drops_looks c.args.decision.change c.args._serial _ _ c.requires.drops c.publish_same.ensures.drop

pub returns-in-Ok-clause-book : goal.returns-in-Ok-clause-book
returns-in-Ok-clause-book g c =
    let keeps = drops_kept c.args.book.now.plain.server c.args.decision.change c.args._serial _ _ c.args.decision.cmd c.requires.drops c.requires.told c.publish_same.ensures.drop in
    let d =
    drop_made c.args.book.now.plain c.requires.book.has.book c.args.who c.args.decision c.requires.made c.take_room.new.modules c.take_room.ensures.table
    (subst (λ (e : Entry). new_modules e.cmd ≤ c.take_room.new.modules.room) c.entry_of-entry.ensures c.in-Ok.ensures.room) c.take_room.new.journal
    (c.in-Ok.ensures.ok ∙ ap (λ (e : Entry). c.args.book.now.plain.journal ++ e ∷ []) c.entry_of-entry.ensures)
    c.requires.holds c.requires.ends c.finish_change-answer.new.book c.after_next-after.result c.finish_change-answer.result c.finish_change-answer.ensures c.after_next-after.ensures.counted in
    let p = c.publish_same.ensures.published in
    published_book g.K.Naming.names _ _ c.args.book.now c.requires.book.has c.args.who c.args.decision c.requires.made (drops_publish c.args.book.now.plain.server c.args.decision.change c.args._serial c.requires.drops)
    c.publish_same.new.tables c.publish_same.ensures.tables (c.publish_same.ensures.exports ∙ c.requires.book.has.exports) c.publish_same.ensures.notes c.publish_same.ensures.waits keeps p.next p.shows p.published
    (record (c.args.book.now) { plain = c.finish_change-answer.new.book; tables = c.publish_same.new.tables; look = None }) d.book
    (ap (λ (x : PermitState). x.script) c.finish_change-answer.ensures.state)
    (ap (λ (x : PermitState). x.journal) c.finish_change-answer.ensures.state ∙ c.in-Ok.ensures.ok ∙ ap (λ (e : Entry). c.args.book.now.plain.journal ++ e ∷ []) c.entry_of-entry.ensures)
    (ap (λ (o : Outcome). o.state) (sym c.finish_change-answer.ensures.made_is))
    refl refl refl c.requires.none
    (rests_by g.K.Naming.names c.finish_change-answer.new.book.holder _ c.publish_same.new.tables (free_no_trace c.finish_change-answer.new.book.holder (ap (λ (x : PermitState). x.holder) c.finish_change-answer.ensures.state)) p.rest)

pub returns-in-Err-clause-err : goal.returns-in-Err-clause-err
returns-in-Err-clause-err g c = record { same = ap (λ js. record (shown c.args.book.now.plain) { journal = js }) c.in-Err.ensures.err; published = refl; none = c.requires.none }

pub returns-in-Err-clause-book : goal.returns-in-Err-clause-book
returns-in-Err-clause-book g c =
    rests g.K.Naming.names _ _ c.args.book.now (record (c.args.book.now) { plain = record (c.args.book.now.plain) { journal = c.take_room.new.journal; modules = c.take_room.new.modules }; look = None }) c.requires.book.has
    (ap (λ js. record (shown c.args.book.now.plain) { journal = js }) c.in-Err.ensures.err)
    c.take_room.ensures.table c.requires.book.has.tables c.requires.book.has.exports refl (record { notes = refl; looks = refl; waits = λ pair among. among; longer = omega (arith) }) refl c.requires.none refl (ends_no_trace (shown c.args.book.now.plain) c.args.who c.args.decision.cmd c.requires.ends)
    (at_rest g.K.Naming.names (shown c.args.book.now.plain) c.args.book.now.tables c.args.book.now.waiting c.requires.none (ends_no_trace (shown c.args.book.now.plain) c.args.who c.args.decision.cmd c.requires.ends) c.requires.book.words)
