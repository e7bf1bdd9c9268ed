use Rattle.std.proofs.Common.{◌≡◌}
use Rattle.progress_words.specs.Tokens.{written_by, IsWriterOf}
use Rattle.area_tests.specs.Several.{AreRetiring}
use Rattle.area_tests.proofs.several.retire_all.Given as goal

-- so many are retired
abbrev pub invariant-loop-at : goal.invariant-loop-at
invariant-loop-at l = IsWriterOf l.fn.shared.table.shared.table_id l.fn.shared.table.shared.key l.writer × ((written_by l.writer).notes ≡ (written_by l.fn.writer).notes) × (l.pools.next ≡ l.fn.pools.next) × AreRetiring l.at l.pools (written_by l.writer)
