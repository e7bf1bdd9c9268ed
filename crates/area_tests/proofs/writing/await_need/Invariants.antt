use Rattle.std.proofs.Common.{◌≡◌}
use Rattle.progress_words.specs.Tokens.{written_by, IsWriterOf}
use Rattle.progress_words.specs.Needs.{HasTaken}
use Rattle.area_tests.specs.Gone.{AreGone}
use Rattle.new_tables.specs.Leading.{IsLeading}
use Rattle.area_tests.proofs.writing.await_need.Given as goal

-- the writer may ask again, and the leader leads
abbrev pub invariant-loop : goal.invariant-loop
invariant-loop l = IsWriterOf l.fn.shared.table.shared.table_id l.fn.shared.table.shared.key l.writer × AreGone 0 3 l.fn.pools (written_by l.writer) × HasTaken (written_by l.writer) 2 l.fn.need × IsLeading l.fn.shared.table.shared.table_id l.leader × (l.leader.number ≡ l.fn.leader.number)
