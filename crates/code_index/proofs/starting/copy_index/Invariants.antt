-- So many words are copied.
use Rattle.code_index.proofs.Copying.{CopiesOn}
use Rattle.code_index.proofs.starting.copy_index.Given as goal

abbrev pub invariant-loop-entry : goal.invariant-loop-entry
invariant-loop-entry g l = CopiesOn l.fn.shared.table.shared.table_id l.fn.shared.table.shared.key l.fn.block l.entry l.fn.writer l.writer
