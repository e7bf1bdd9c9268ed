-- The value is waited for, and then slots are looked through.
use Rattle.std.proofs.Common.{◌∙◌}
use Rattle.progress_words.specs.Tokens.{written_by}
use Rattle.word_permit.proofs.Looked.{found_since, loads_then, looks_kept, still_asked, then_loads}
use Rattle.word_permit.proofs.PurgeCalls.{code_still, two_looks}
use Rattle.word_permit.proofs.looking.look_for_code.Goals as goal

pub look_through_frames-requires-clause-none : goal.look_through_frames-requires-clause-none
look_through_frames-requires-clause-none g c = c.is_look_reached.ensures.same.waiting ∙ c.awaited_look-value.ensures.same.waiting ∙ c.requires.none

pub look_through_frames-requires-clause-code : goal.look_through_frames-requires-clause-code
look_through_frames-requires-clause-code g c =
    code_still c.args.book.now c.is_look_reached.new.book c.args.«module».0 c.args.serial (two_looks c.args.book.now c.awaited_look-value.new.book c.is_look_reached.new.book c.awaited_look-value.ensures.same c.is_look_reached.ensures.same) c.requires.code

pub returns-in-Ok-clause-found : goal.returns-in-Ok-clause-found
returns-in-Ok-clause-found g c =
    found_since (written_by c.args.book.now.tables.writer) (written_by c.is_look_reached.new.book.tables.writer) (written_by c.look_through_frames.new.book.tables.writer) c.args.serial c.look_through_frames.result
    (looks_kept (written_by c.args.book.now.tables.writer) (written_by c.awaited_look-value.new.book.tables.writer) (written_by c.is_look_reached.new.book.tables.writer) c.awaited_look-value.ensures.looks c.is_look_reached.ensures.looks)
    c.look_through_frames.ensures.found

pub returns-in-Ok-clause-same : goal.returns-in-Ok-clause-same
returns-in-Ok-clause-same g c =
    two_looks c.args.book.now c.is_look_reached.new.book c.look_through_frames.new.book (two_looks c.args.book.now c.awaited_look-value.new.book c.is_look_reached.new.book c.awaited_look-value.ensures.same c.is_look_reached.ensures.same) c.look_through_frames.ensures.same

pub returns-in-Err-clause-same : goal.returns-in-Err-clause-same
returns-in-Err-clause-same g c = two_looks c.args.book.now c.awaited_look-value.new.book c.is_look_reached.new.book c.awaited_look-value.ensures.same c.is_look_reached.ensures.same

pub returns-in-Err-clause-still : goal.returns-in-Err-clause-still
returns-in-Err-clause-still g c = still_asked c.args.book.now.look c.awaited_look-value.result c.in-Err.answer.need c.awaited_look-value.ensures.still c.in-Err.ensures.asked.asked

pub returns-in-Err-clause-loads : goal.returns-in-Err-clause-loads
returns-in-Err-clause-loads g c =
    then_loads (written_by c.args.book.now.tables.writer) (written_by c.awaited_look-value.new.book.tables.writer) (written_by c.is_look_reached.new.book.tables.writer) c.awaited_look-value.ensures.same.longer c.is_look_reached.ensures.loads

pub returns-in-Ok-clause-loads : goal.returns-in-Ok-clause-loads
returns-in-Ok-clause-loads g c =
    let loads = then_loads (written_by c.args.book.now.tables.writer) (written_by c.awaited_look-value.new.book.tables.writer) (written_by c.is_look_reached.new.book.tables.writer) c.awaited_look-value.ensures.same.longer c.is_look_reached.ensures.loads in
    loads_then (written_by c.args.book.now.tables.writer) (written_by c.is_look_reached.new.book.tables.writer) (written_by c.look_through_frames.new.book.tables.writer) loads c.look_through_frames.ensures.same.longer

pub returns-in-Err-clause-need : goal.returns-in-Err-clause-need
returns-in-Err-clause-need g c = c.is_look_reached.ensures.need ∙ c.awaited_look-value.ensures.need

pub returns-in-Ok-clause-need : goal.returns-in-Ok-clause-need
returns-in-Ok-clause-need g c = c.look_through_frames.ensures.need ∙ c.is_look_reached.ensures.need ∙ c.awaited_look-value.ensures.need
