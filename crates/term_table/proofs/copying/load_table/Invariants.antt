-- So many words are loaded.
use Rattle.term_table.proofs.Copies.{LoadsOn}
use Rattle.term_table.proofs.copying.load_table.Given as goal

abbrev pub invariant-loop-at : goal.invariant-loop-at
invariant-loop-at g l = LoadsOn l.fn.shared.table.shared.table_id l.fn.shared.table.shared.key l.fn.table l.at l.fn.writer l.writer l.loaded
