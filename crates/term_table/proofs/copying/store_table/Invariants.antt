-- So many words are stored.
use Rattle.term_table.proofs.Copies.{StoresOn}
use Rattle.term_table.proofs.copying.store_table.Given as goal

abbrev pub invariant-loop-at : goal.invariant-loop-at
invariant-loop-at g l = StoresOn l.fn.shared.table.shared.table_id l.fn.shared.table.shared.key l.fn.table l.at l.fn.built l.fn.writer l.writer
