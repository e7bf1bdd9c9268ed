-- So many buckets of other keys are passed.
use Rattle.term_table.proofs.Lookups.{LooksOn}
use Rattle.term_table.proofs.looking.lookup.Given as goal

abbrev pub invariant-loop-tried : goal.invariant-loop-tried
invariant-loop-tried g l = LooksOn l.fn.shared.table.shared.table_id l.table l.fn.key.0 l.tried l.fn.member l.member
