-- So many keys stand in the buckets so far.
use Rattle.std.proofs.Common.{◌≡◌}
use Rattle.term_table.specs.Built.{held_in, words_of}
use Rattle.term_table.proofs.buckets.Buckets.count.Given as goal

abbrev pub invariant-loop-bucket : goal.invariant-loop-bucket
invariant-loop-bucket l = l.count ≡ held_in (words_of l.fn.self) l.bucket
