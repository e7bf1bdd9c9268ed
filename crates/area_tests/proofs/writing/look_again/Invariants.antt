use Rattle.std.proofs.Common.{◌≤◌}
use Rattle.progress_words.specs.Tokens.{written_by, IsWriterOf}
use Rattle.anchors.specs.Scans.{LooksMore}
use Rattle.area_tests.specs.Several.{AreClear}
use Rattle.area_tests.proofs.writing.look_again.Given as goal

-- one more look may begin, and no more found an area than were made
abbrev pub invariant-loop-look : goal.invariant-loop-look
invariant-loop-look l = IsWriterOf l.fn.shared.table.shared.table_id l.fn.shared.table.shared.key l.writer × AreClear l.fn.count (written_by l.writer) × LooksMore (written_by l.fn.writer) (written_by l.writer) × (l.late ≤ l.look)
