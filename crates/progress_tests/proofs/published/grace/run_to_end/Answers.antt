-- The empty generation alone is published at first.
use Rattle.new_tables.proofs.Emptied.{handing_empty}
use Rattle.progress_tests.proofs.published.grace.run_to_end.Goals as goal

pub run_beside-writer-requires-clause-empty : goal.run_beside-writer-requires-clause-empty
run_beside-writer-requires-clause-empty g c κs within = handing_empty c.args.shared.table.shared.table_id c.args.shared.table.shared.key _ c.args.parts.writer c.requires.writer
