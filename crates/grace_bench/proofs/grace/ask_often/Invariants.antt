-- The writer may ask once more.
use Rattle.std.proofs.Common.{◌≡◌}
use Rattle.progress_words.specs.Tokens.{written_by, IsWriterOf}
use Rattle.grace_bench.specs.Waiting.{HasAsked}
use Rattle.grace_bench.proofs.grace.ask_often.Given as goal

abbrev pub invariant-loop : goal.invariant-loop
invariant-loop l = record {
  token : IsWriterOf l.fn.shared.table.shared.table_id l.fn.shared.table.shared.key l.writer;
  generation : l.writer.generation ≡ l.fn.writer.generation;
  asked : HasAsked (written_by l.fn.writer) (written_by l.writer);
}
