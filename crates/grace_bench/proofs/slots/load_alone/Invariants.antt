-- The token stays the writer's.
use Rattle.progress_words.specs.Tokens.{IsWriterOf}
use Rattle.grace_bench.proofs.slots.load_alone.Given as goal

abbrev pub invariant-loop : goal.invariant-loop
invariant-loop l = IsWriterOf l.shared.table.shared.table_id l.shared.table.shared.key l.writer
