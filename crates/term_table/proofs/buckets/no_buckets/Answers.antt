use Rattle.term_table.proofs.Filled.{zero_at}
use Rattle.term_table.proofs.buckets.no_buckets.Goals as goal

pub returns-clause-empty : goal.returns-clause-empty
returns-clause-empty c = λ at. zero_at 1024 at
