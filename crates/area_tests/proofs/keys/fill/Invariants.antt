-- So many keys were added.
use Rattle.progress_words.specs.Tokens.{written_by, IsWriterOf}
use Rattle.term_table.specs.Tables.{IsTableOf}
use Rattle.area_tests.specs.Keyed.{HasKeys}
use Rattle.new_tables.specs.Leading.{IsLeading}
use Rattle.area_tests.proofs.keys.fill.Given as goal

abbrev pub invariant-loop-count : goal.invariant-loop-count
invariant-loop-count l = IsWriterOf l.fn.shared.table.shared.table_id l.fn.shared.table.shared.key l.writer × IsLeading l.fn.shared.table.shared.table_id l.leader × IsTableOf l.tables (written_by l.writer) × HasKeys l.count (written_by l.writer)
