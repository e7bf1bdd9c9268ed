-- The search has passed the buckets so far.
use Rattle.std.proofs.Common.{◌≡◌, None}
use Rattle.area_core.specs.Terms.{looked}
use Rattle.term_table.specs.Built.{words_of}
use Rattle.term_table.proofs.buckets.Buckets.holds.Given as goal

abbrev pub invariant-loop-tried : goal.invariant-loop-tried
invariant-loop-tried l = looked (words_of l.fn.self) l.key l.tried ≡ None
