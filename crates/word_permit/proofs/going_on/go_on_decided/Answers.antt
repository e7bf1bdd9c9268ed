-- What the words answered tells what is left of the book.
use Rattle.std.proofs.Common.{◌+◌, ◌<◌, ◌≤◌, ◌^◌, ◌∷◌, [], ◌++◌, length, length-append, is_some, refl, ap, subst, ◌∙◌, arith}
use Rattle.run_log.specs.declared.logs.Entry.{Entry}
use Rattle.staging.specs.Stages.{stage_number}
use Rattle.write_permit.specs.Agreement.{new_modules}
use Rattle.write_permit.specs.Book.{shown}
use Rattle.word_permit.proofs.Ended.{can_follow}
use Rattle.word_permit.proofs.Kept.{known_abandoned, made_numbered, numbers_left, rests}
use Rattle.word_permit.proofs.Resting.{held_no_trace}
use Rattle.word_permit.proofs.Settling.{settled_forward, settled_need}
use Rattle.word_permit.proofs.Went.{went_on}
use Rattle.word_permit.proofs.going_on.go_on_decided.Goals as goal

pub after_next-after-requires-clause-next : goal.after_next-after-requires-clause-next
after_next-after-requires-clause-next g c = ap is_some c.requires.decided.next

pub step-stage-requires-clause-numbered : goal.step-stage-requires-clause-numbered
step-stage-requires-clause-numbered g c =
    made_numbered g.K.Naming.names _ _ c.args.book.now c.args.who c.args.waiting.decision c.args.waiting.stage c.changes_keep_numbers.ensures.commands c.requires.tables c.requires.decided c.requires.stands

pub step-stage-requires-clause-room : goal.step-stage-requires-clause-room
step-stage-requires-clause-room g c =
    let room : c.args.book.now.plain.server.generation + 1 < 2 ^ 40 = omega (arith, c.in-Ok.ensures.numbers, c.generation-generation.ensures.value) in
    numbers_left g.K.Naming.names _ _ c.args.book.now c.requires.tables room

pub settle-requires-clause-can : goal.settle-requires-clause-can
settle-requires-clause-can g c =
    can_follow c.args.book.now.plain c.requires.tables.book c.args.who c.args.waiting.decision c.requires.holds c.requires.decided c.take_room.new.modules c.take_room.ensures.table (subst (λ (e : Entry). new_modules e.cmd ≤ c.take_room.new.modules.room) c.entry_of-entry.ensures c.in-Ok.ensures.room) c.take_room.new.journal
    (c.in-Ok.ensures.ok ∙ ap (λ (e : Entry). c.args.book.now.plain.journal ++ e ∷ []) c.entry_of-entry.ensures)

pub settle-requires-clause-joined : goal.settle-requires-clause-joined
settle-requires-clause-joined g c =
    let longer = ap length c.in-Ok.ensures.ok in
    omega (arith, longer, length-append c.args.book.now.plain.journal (c.entry_of-entry.result ∷ []))

pub returns-in-Ok-clause-ok : goal.returns-in-Ok-clause-ok
returns-in-Ok-clause-ok g c =
    let w =
    went_on g.K.Naming.names _ _ c.args.book.now c.requires.tables c.args.who c.args.waiting.decision c.requires.holds c.requires.decided c.requires.none c.requires.look c.take_room.new.modules c.take_room.ensures.table c.take_room.new.journal c.step-stage.new.tables
    c.step-stage.ensures.tables c.step-stage.ensures.names c.step-stage.ensures.known (subst (λ (e : Entry). new_modules e.cmd ≤ c.take_room.new.modules.room) c.entry_of-entry.ensures c.in-Ok.ensures.room) (c.in-Ok.ensures.ok ∙ ap (λ (e : Entry). c.args.book.now.plain.journal ++ e ∷ []) c.entry_of-entry.ensures) c.after_next-after.result c.after_next-after.ensures.counted c.requires.staged
    c.settle.new.book c.step-stage.result.0 c.step-stage.result.1 c.settle.result c.settle.ensures c.step-stage.ensures.ok c.step-stage.ensures.placed c.step-stage.ensures.err c.step-stage.ensures.err_published in
    w.ok

pub returns-in-Ok-clause-decision : goal.returns-in-Ok-clause-decision
returns-in-Ok-clause-decision g c =
    let w =
    went_on g.K.Naming.names _ _ c.args.book.now c.requires.tables c.args.who c.args.waiting.decision c.requires.holds c.requires.decided c.requires.none c.requires.look c.take_room.new.modules c.take_room.ensures.table c.take_room.new.journal c.step-stage.new.tables
    c.step-stage.ensures.tables c.step-stage.ensures.names c.step-stage.ensures.known (subst (λ (e : Entry). new_modules e.cmd ≤ c.take_room.new.modules.room) c.entry_of-entry.ensures c.in-Ok.ensures.room) (c.in-Ok.ensures.ok ∙ ap (λ (e : Entry). c.args.book.now.plain.journal ++ e ∷ []) c.entry_of-entry.ensures) c.after_next-after.result c.after_next-after.ensures.counted c.requires.staged
    c.settle.new.book c.step-stage.result.0 c.step-stage.result.1 c.settle.result c.settle.ensures c.step-stage.ensures.ok c.step-stage.ensures.placed c.step-stage.ensures.err c.step-stage.ensures.err_published in
    w.decision

pub returns-in-Ok-clause-err : goal.returns-in-Ok-clause-err
returns-in-Ok-clause-err g c =
    let w =
    went_on g.K.Naming.names _ _ c.args.book.now c.requires.tables c.args.who c.args.waiting.decision c.requires.holds c.requires.decided c.requires.none c.requires.look c.take_room.new.modules c.take_room.ensures.table c.take_room.new.journal c.step-stage.new.tables
    c.step-stage.ensures.tables c.step-stage.ensures.names c.step-stage.ensures.known (subst (λ (e : Entry). new_modules e.cmd ≤ c.take_room.new.modules.room) c.entry_of-entry.ensures c.in-Ok.ensures.room) (c.in-Ok.ensures.ok ∙ ap (λ (e : Entry). c.args.book.now.plain.journal ++ e ∷ []) c.entry_of-entry.ensures) c.after_next-after.result c.after_next-after.ensures.counted c.requires.staged
    c.settle.new.book c.step-stage.result.0 c.step-stage.result.1 c.settle.result c.settle.ensures c.step-stage.ensures.ok c.step-stage.ensures.placed c.step-stage.ensures.err c.step-stage.ensures.err_published in
    w.err

pub returns-in-Ok-clause-book : goal.returns-in-Ok-clause-book
returns-in-Ok-clause-book g c =
    let w =
    went_on g.K.Naming.names _ _ c.args.book.now c.requires.tables c.args.who c.args.waiting.decision c.requires.holds c.requires.decided c.requires.none c.requires.look c.take_room.new.modules c.take_room.ensures.table c.take_room.new.journal c.step-stage.new.tables
    c.step-stage.ensures.tables c.step-stage.ensures.names c.step-stage.ensures.known (subst (λ (e : Entry). new_modules e.cmd ≤ c.take_room.new.modules.room) c.entry_of-entry.ensures c.in-Ok.ensures.room) (c.in-Ok.ensures.ok ∙ ap (λ (e : Entry). c.args.book.now.plain.journal ++ e ∷ []) c.entry_of-entry.ensures) c.after_next-after.result c.after_next-after.ensures.counted c.requires.staged
    c.settle.new.book c.step-stage.result.0 c.step-stage.result.1 c.settle.result c.settle.ensures c.step-stage.ensures.ok c.step-stage.ensures.placed c.step-stage.ensures.err c.step-stage.ensures.err_published in
    w.book

pub returns-in-Err-clause-err : goal.returns-in-Err-clause-err
returns-in-Err-clause-err g c =
    let k = known_abandoned c.args.waiting.stage _ _ c.abandon.ensures.view in
    record { same = ap (λ js. record (shown c.args.book.now.plain) { journal = js }) c.in-Err.ensures.err; published = k.published; none = c.requires.none }

pub returns-in-Err-clause-book : goal.returns-in-Err-clause-book
returns-in-Err-clause-book g c =
    let k = known_abandoned c.args.waiting.stage _ _ c.abandon.ensures.view in
    rests g.K.Naming.names _ _ c.args.book.now (record (c.args.book.now) { plain = record (c.args.book.now.plain) { journal = c.take_room.new.journal; modules = c.take_room.new.modules }; tables = c.abandon.new.tables }) c.requires.tables
    (ap (λ js. record (shown c.args.book.now.plain) { journal = js }) c.in-Err.ensures.err)
    c.take_room.ensures.table c.abandon.ensures.tables
    (c.abandon.ensures.exports ∙ c.requires.tables.exports)
    k.published
    k.known
    refl
    c.requires.none
    c.requires.look
    (held_no_trace c.args.book.now.plain.holder c.args.who c.requires.holds)
    c.abandon.ensures.rest

pub returns-in-Ok-clause-need : goal.returns-in-Ok-clause-need
returns-in-Ok-clause-need g c =
    settled_need c.args.who c.args.waiting.decision.change c.step-stage.result.0 c.after_next-after.result
    (record (c.args.book.now) { plain = record (c.args.book.now.plain) { journal = c.take_room.new.journal; modules = c.take_room.new.modules }; tables = c.step-stage.new.tables }) c.settle.new.book c.step-stage.result.1 c.settle.result
    c.args.book.now.plain.journal c.entry_of-entry.result c.in-Ok.ensures.ok c.settle.ensures

pub returns-in-Ok-clause-forward : goal.returns-in-Ok-clause-forward
returns-in-Ok-clause-forward g c =
    settled_forward c.args.who (stage_number c.args.waiting.stage) c.args.waiting.decision.change c.step-stage.result.0 c.after_next-after.result
    (record (c.args.book.now) { plain = record (c.args.book.now.plain) { journal = c.take_room.new.journal; modules = c.take_room.new.modules }; tables = c.step-stage.new.tables }) c.settle.new.book c.step-stage.result.1 c.settle.result
    c.args.book.now.plain.journal c.entry_of-entry.result c.in-Ok.ensures.ok c.requires.none c.settle.ensures c.step-stage.ensures.forward
