-- So many generations were published, each of them empty.
use Rattle.std.proofs.Common.{◌≡◌}
use Rattle.progress_words.specs.Tokens.{written_by, IsWriterOf}
use Rattle.new_tables.specs.Running.{IsEmpty}
use Rattle.grace_bench.proofs.grace.wait_often.Given as goal

abbrev pub invariant-loop : goal.invariant-loop
invariant-loop g l = record {
  token : IsWriterOf l.fn.shared.table.shared.table_id l.fn.shared.table.shared.key l.writer;
  empty : IsEmpty (written_by l.writer);
  generation : l.writer.generation ≡ l.counter;
}
