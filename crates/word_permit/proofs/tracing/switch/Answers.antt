-- What the words answered tells what is left of the book.
use Rattle.std.proofs.Common.{◌+◌, ◌<◌, ◌≤◌, ◌^◌, ◌∷◌, [], ◌++◌, length, length-append, refl, ap, subst, ◌∙◌, arith}
use Rattle.run_log.specs.declared.logs.Entry.{Entry}
use Rattle.write_permit.specs.Agreement.{new_modules}
use Rattle.write_permit.specs.Book.{shown}
use Rattle.word_permit.proofs.Ended.{can_follow}
use Rattle.word_permit.proofs.Kept.{known_abandoned, made_numbered, numbers_left, rests}
use Rattle.word_permit.proofs.Resting.{held_no_trace}
use Rattle.word_permit.proofs.Settling.{entered_forward, entered_need}
use Rattle.word_permit.proofs.Switched.{switched_on}
use Rattle.word_permit.proofs.TraceCode.{trace_decided}
use Rattle.word_permit.proofs.tracing.switch.Goals as goal

pub step_trace-stage-requires-clause-code : goal.step_trace-stage-requires-clause-code
step_trace-stage-requires-clause-code g c = let k = trace_decided (shown c.args.book.now.plain) c.args.who c.args.waiting.decision c.requires.decided c.requires.traces in k.code

pub step_trace-stage-requires-clause-numbered : goal.step_trace-stage-requires-clause-numbered
step_trace-stage-requires-clause-numbered g c =
    made_numbered g.K.Naming.names _ _ c.args.book.now c.args.who c.args.waiting.decision c.args.waiting.stage c.changes_keep_numbers.ensures.commands c.requires.tables c.requires.decided c.requires.stands

pub step_trace-stage-requires-clause-room : goal.step_trace-stage-requires-clause-room
step_trace-stage-requires-clause-room g c =
    let room : c.args.book.now.plain.server.generation + 1 < 2 ^ 40 = omega (arith, c.in-Ok.ensures.numbers, c.generation-generation.ensures.value) in
    numbers_left g.K.Naming.names _ _ c.args.book.now c.requires.tables room

pub enter-requires-clause-can : goal.enter-requires-clause-can
enter-requires-clause-can g c =
    can_follow c.args.book.now.plain c.requires.tables.book c.args.who c.args.waiting.decision c.requires.holds c.requires.decided c.take_room.new.modules c.take_room.ensures.table (subst (λ (e : Entry). new_modules e.cmd ≤ c.take_room.new.modules.room) c.entry_of-entry.ensures c.in-Ok.ensures.room) c.take_room.new.journal
    (c.in-Ok.ensures.ok ∙ ap (λ (e : Entry). c.args.book.now.plain.journal ++ e ∷ []) c.entry_of-entry.ensures)

pub enter-requires-clause-joined : goal.enter-requires-clause-joined
enter-requires-clause-joined g c =
    let longer = ap length c.in-Ok.ensures.ok in
    omega (arith, longer, length-append c.args.book.now.plain.journal (c.entry_of-entry.result ∷ []))

pub returns-in-Ok-clause-ok : goal.returns-in-Ok-clause-ok
returns-in-Ok-clause-ok g c =
    let numbers : c.args.book.now.plain.server.generation + 2 < 2 ^ 40 = omega (arith, c.in-Ok.ensures.numbers, c.generation-generation.ensures.value) in
    let w =
    switched_on g.K.Naming.names _ _ c.args.book.now c.requires.tables c.args.who c.args.waiting.decision c.requires.holds c.requires.decided c.requires.none c.requires.look c.requires.traces c.take_room.new.modules c.take_room.ensures.table c.take_room.new.journal c.step_trace-stage.new.tables
    c.step_trace-stage.ensures.tables (c.step_trace-stage.ensures.exports ∙ c.requires.tables.exports) c.step_trace-stage.ensures.known (subst (λ (e : Entry). new_modules e.cmd ≤ c.take_room.new.modules.room) c.entry_of-entry.ensures c.in-Ok.ensures.room) numbers
    (c.in-Ok.ensures.ok ∙ ap (λ (e : Entry). c.args.book.now.plain.journal ++ e ∷ []) c.entry_of-entry.ensures) c.enter.new.book c.step_trace-stage.result.0 c.step_trace-stage.result.1 c.enter.ensures c.step_trace-stage.ensures.need c.step_trace-stage.ensures.answers in
    w.ok

pub returns-in-Ok-clause-look : goal.returns-in-Ok-clause-look
returns-in-Ok-clause-look g c =
    let numbers : c.args.book.now.plain.server.generation + 2 < 2 ^ 40 = omega (arith, c.in-Ok.ensures.numbers, c.generation-generation.ensures.value) in
    let w =
    switched_on g.K.Naming.names _ _ c.args.book.now c.requires.tables c.args.who c.args.waiting.decision c.requires.holds c.requires.decided c.requires.none c.requires.look c.requires.traces c.take_room.new.modules c.take_room.ensures.table c.take_room.new.journal c.step_trace-stage.new.tables
    c.step_trace-stage.ensures.tables (c.step_trace-stage.ensures.exports ∙ c.requires.tables.exports) c.step_trace-stage.ensures.known (subst (λ (e : Entry). new_modules e.cmd ≤ c.take_room.new.modules.room) c.entry_of-entry.ensures c.in-Ok.ensures.room) numbers
    (c.in-Ok.ensures.ok ∙ ap (λ (e : Entry). c.args.book.now.plain.journal ++ e ∷ []) c.entry_of-entry.ensures) c.enter.new.book c.step_trace-stage.result.0 c.step_trace-stage.result.1 c.enter.ensures c.step_trace-stage.ensures.need c.step_trace-stage.ensures.answers in
    w.look

pub returns-in-Ok-clause-book : goal.returns-in-Ok-clause-book
returns-in-Ok-clause-book g c =
    let numbers : c.args.book.now.plain.server.generation + 2 < 2 ^ 40 = omega (arith, c.in-Ok.ensures.numbers, c.generation-generation.ensures.value) in
    let w =
    switched_on g.K.Naming.names _ _ c.args.book.now c.requires.tables c.args.who c.args.waiting.decision c.requires.holds c.requires.decided c.requires.none c.requires.look c.requires.traces c.take_room.new.modules c.take_room.ensures.table c.take_room.new.journal c.step_trace-stage.new.tables
    c.step_trace-stage.ensures.tables (c.step_trace-stage.ensures.exports ∙ c.requires.tables.exports) c.step_trace-stage.ensures.known (subst (λ (e : Entry). new_modules e.cmd ≤ c.take_room.new.modules.room) c.entry_of-entry.ensures c.in-Ok.ensures.room) numbers
    (c.in-Ok.ensures.ok ∙ ap (λ (e : Entry). c.args.book.now.plain.journal ++ e ∷ []) c.entry_of-entry.ensures) c.enter.new.book c.step_trace-stage.result.0 c.step_trace-stage.result.1 c.enter.ensures c.step_trace-stage.ensures.need c.step_trace-stage.ensures.answers in
    w.book

pub returns-in-Err-clause-err : goal.returns-in-Err-clause-err
returns-in-Err-clause-err g c =
    let k = known_abandoned c.args.waiting.stage _ _ c.abandon.ensures.view in
    record { same = ap (λ js. record (shown c.args.book.now.plain) { journal = js }) c.in-Err.ensures.err; published = k.published; none = c.requires.none }

pub returns-in-Err-clause-book : goal.returns-in-Err-clause-book
returns-in-Err-clause-book g c =
    let k = known_abandoned c.args.waiting.stage _ _ c.abandon.ensures.view in
    rests g.K.Naming.names _ _ c.args.book.now (record (c.args.book.now) { plain = record (c.args.book.now.plain) { journal = c.take_room.new.journal; modules = c.take_room.new.modules }; tables = c.abandon.new.tables }) c.requires.tables
    (ap (λ js. record (shown c.args.book.now.plain) { journal = js }) c.in-Err.ensures.err)
    c.take_room.ensures.table c.abandon.ensures.tables (c.abandon.ensures.exports ∙ c.requires.tables.exports) k.published k.known refl c.requires.none c.requires.look (held_no_trace c.args.book.now.plain.holder c.args.who c.requires.holds) c.abandon.ensures.rest

pub returns-in-Ok-clause-need : goal.returns-in-Ok-clause-need
returns-in-Ok-clause-need g c =
    entered_need c.args.who c.args.waiting.decision.change c.step_trace-stage.result.0
    (record (c.args.book.now) { plain = record (c.args.book.now.plain) { journal = c.take_room.new.journal; modules = c.take_room.new.modules }; tables = c.step_trace-stage.new.tables }) c.enter.new.book c.step_trace-stage.result.1
    c.args.book.now.plain.journal c.entry_of-entry.result c.in-Ok.ensures.ok c.enter.ensures

pub returns-in-Ok-clause-forward : goal.returns-in-Ok-clause-forward
returns-in-Ok-clause-forward g c =
    entered_forward g.K.Naming.names c.args.book.now.plain.server c.args.who c.args.waiting.decision.change c.args.waiting.stage c.step_trace-stage.result.0 c.args.book.now.tables c.step_trace-stage.new.tables
    (record (c.args.book.now) { plain = record (c.args.book.now.plain) { journal = c.take_room.new.journal; modules = c.take_room.new.modules }; tables = c.step_trace-stage.new.tables }) c.enter.new.book c.step_trace-stage.result.1
    c.args.book.now.plain.journal c.entry_of-entry.result c.in-Ok.ensures.ok c.requires.none c.requires.traces c.requires.stands c.enter.ensures c.step_trace-stage.ensures.answers
