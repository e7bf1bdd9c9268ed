-- So many words are written.
use Rattle.literal_areas.proofs.WordByWord.{WritesOn}
use Rattle.literal_areas.proofs.pools.Pools.write.Given as goal

abbrev pub invariant-loop-at : goal.invariant-loop-at
invariant-loop-at g l = WritesOn l.fn.shared.table.shared.table_id l.fn.shared.table.shared.key l.self l.fn.area l.at l.fn.words l.fn.writer l.writer
