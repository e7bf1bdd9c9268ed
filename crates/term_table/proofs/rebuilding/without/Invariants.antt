-- The table is built anew from the buckets so far.
use Rattle.term_table.proofs.Renewing.{IsRebuilt}
use Rattle.term_table.proofs.rebuilding.without.Given as goal

abbrev pub invariant-loop-bucket : goal.invariant-loop-bucket
invariant-loop-bucket l = IsRebuilt l.fn.held l.fn.gone.0 l.bucket l.built
