-- The writer may ask once more, for the value that it took.
use Rattle.std.proofs.Common.{◌≡◌}
use Rattle.shared_words.specs.Views.{newest_number}
use Rattle.progress_words.specs.Tokens.{written_by, IsWriterOf}
use Rattle.progress_words.specs.Needs.{HasTaken}
use Rattle.grace_bench.specs.Waiting.{HasAsked}
use Rattle.grace_bench.proofs.grace.wait_over.Given as goal

abbrev pub invariant-loop : goal.invariant-loop
invariant-loop g l = record {
  token : IsWriterOf l.fn.shared.table.shared.table_id l.fn.shared.table.shared.key l.writer;
  generation : l.writer.generation ≡ l.fn.writer.generation;
  asked : HasAsked (written_by l.fn.writer) (written_by l.writer);
  taken : HasTaken (written_by l.writer) (newest_number (written_by l.fn.writer).published) l.need;
}
