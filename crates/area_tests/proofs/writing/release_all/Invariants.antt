use Rattle.std.proofs.Common.{◌*◌, ◌≤◌}
use Rattle.progress_words.specs.Tokens.{written_by, IsWriterOf}
use Rattle.area_tests.specs.Several.{AreReleased}
use Rattle.area_tests.proofs.writing.release_all.Given as goal

-- so many are released
abbrev pub invariant-loop-at : goal.invariant-loop-at
invariant-loop-at l = IsWriterOf l.fn.shared.table.shared.table_id l.fn.shared.table.shared.key l.writer × AreReleased l.at 3 l.fn.need l.pools (written_by l.writer) × (l.late ≤ 300 * l.at)
