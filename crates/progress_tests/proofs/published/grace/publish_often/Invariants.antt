-- So many generations were published, and each is the empty one.
use Rattle.std.proofs.Common.{◌≡◌}
use Rattle.progress_words.specs.Tokens.{written_by, IsWriterOf}
use Rattle.new_tables.specs.Running.{IsEmpty}
use Rattle.progress_tests.proofs.published.grace.publish_often.Given as goal

abbrev pub invariant-loop : goal.invariant-loop
invariant-loop l = IsWriterOf l.fn.shared.table.shared.table_id l.fn.shared.table.shared.key l.writer × IsEmpty (written_by l.writer) × (l.writer.generation ≡ l.counter)
