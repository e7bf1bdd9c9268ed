-- So many decisions are cleared.
use Rattle.breakpoints.proofs.Clears.{ClearsOn}
use Rattle.breakpoints.proofs.clearing.clear_index.Given as goal

abbrev pub invariant-loop-function : goal.invariant-loop-function
invariant-loop-function g l = ClearsOn l.fn.shared.table.shared.table_id l.fn.shared.table.shared.key l.fn.bp l.fn.block l.function l.fn.writer l.writer
