-- The value that is waited for is the one before, where its area waits still.
use Rattle.std.proofs.Common.{◌∙◌}
use Rattle.progress_words.specs.Tokens.{written_by}
use Rattle.word_permit.proofs.Awaiting.{told_late}
use Rattle.word_permit.proofs.Looked.{looks_kept, then_loads}
use Rattle.word_permit.proofs.PumpedThrough.{none_twice, pump_through}
use Rattle.word_permit.proofs.pumping.pump_book.Goals as goal

pub returns-in-Err-clause-ok : goal.returns-in-Err-clause-ok
returns-in-Err-clause-ok g c =
    let none = none_twice c.args.book.now c.awaited.new.book c.is_reached.new.book c.awaited.ensures.none_released c.is_reached.ensures.none_released in (
      none,
      told_late c.args.book.now c.awaited.new.book c.is_reached.new.book c.in-Some.need c.in-Err.answer c.in-Some.ensures.kept c.is_reached.ensures.kept c.in-Some.ensures.some.0 c.is_reached.ensures.awaited c.in-Some.ensures.same
          (then_loads (written_by c.args.book.now.tables.writer) (written_by c.awaited.new.book.tables.writer) (written_by c.is_reached.new.book.tables.writer) c.awaited.ensures.longer c.is_reached.ensures.loads) c.in-Err.ensures.late,
    )

pub returns-in-Ok-clause-ok : goal.returns-in-Ok-clause-ok
returns-in-Ok-clause-ok g c =
    let none = none_twice c.args.book.now c.awaited.new.book c.is_reached.new.book c.awaited.ensures.none_released c.is_reached.ensures.none_released in
    let loads = then_loads (written_by c.args.book.now.tables.writer) (written_by c.awaited.new.book.tables.writer) (written_by c.is_reached.new.book.tables.writer) c.awaited.ensures.longer c.is_reached.ensures.loads in
    pump_through c.args.book.now c.is_reached.new.book c.look_for.new.book none (c.is_reached.ensures.plain ∙ c.awaited.ensures.plain) loads
    (λ before was waits. c.is_reached.ensures.kept ∙ c.in-Some.ensures.kept ∙ c.in-Some.ensures.same before was waits)
    (looks_kept (written_by c.args.book.now.tables.writer) (written_by c.awaited.new.book.tables.writer) (written_by c.is_reached.new.book.tables.writer) c.awaited.ensures.looks c.is_reached.ensures.looks) c.look_for.result c.look_for.ensures.ok
