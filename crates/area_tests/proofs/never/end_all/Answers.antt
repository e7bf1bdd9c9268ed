-- A look that was clear holds of the last words too.
use Rattle.shared_words.specs.Seats.{writer_of}
use Rattle.area_tests.proofs.Silent.{silent_end}
use Rattle.area_tests.proofs.never.end_all.Goals as goal

pub returns : goal.returns
returns c =
    let closed = c.in_ok-closed in
    silent_end c.args.shared.table.shared.table_id c.args.shared.table.shared.key c.args.written.released c.in_ok-members.members.items c.args.written.writer (writer_of closed.closed.writer.seat.me.0) c.words-words.result c.requires.opening c.requires.writer c.requires.clear
    c.in_ok-members.ensures closed.ensures.members closed.ensures.marks c.words-words.ensures
