-- The writer may look once more.
use Rattle.marks.specs.declared.kept.LookKind.TheVariants.{Both}
use Rattle.shared_words.specs.Slots.{LookMayBegin}
use Rattle.progress_words.specs.Tokens.{written_by, IsWriterOf}
use Rattle.grace_bench.proofs.scans.scan_often.Given as goal

abbrev pub invariant-loop : goal.invariant-loop
invariant-loop l = record {
  token : IsWriterOf l.fn.shared.table.shared.table_id l.fn.shared.table.shared.key l.writer;
  may : LookMayBegin (written_by l.writer) Both 2;
}
