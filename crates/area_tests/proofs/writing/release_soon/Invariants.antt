use Rattle.progress_words.specs.Tokens.{written_by, IsWriterOf}
use Rattle.area_tests.specs.Several.{AreReleased}
use Rattle.area_tests.proofs.writing.release_soon.Given as goal

-- the area is retired still, and the wait for it is over
abbrev pub invariant-loop : goal.invariant-loop
invariant-loop l = IsWriterOf l.fn.shared.table.shared.table_id l.fn.shared.table.shared.key l.writer × AreReleased l.fn.at 3 l.fn.need l.pools (written_by l.writer)
