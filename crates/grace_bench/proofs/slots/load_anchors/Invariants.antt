-- The token stays the writer's.
use Rattle.progress_words.specs.Tokens.{IsWriterOf}
use Rattle.grace_bench.proofs.slots.load_anchors.Given as goal

abbrev pub invariant-loop-place : goal.invariant-loop-place
invariant-loop-place l = IsWriterOf l.fn.shared.table.shared.table_id l.fn.shared.table.shared.key l.writer
