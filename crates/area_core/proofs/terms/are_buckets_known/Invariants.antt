use Rattle.std.proofs.Common.{◌≡◌}
use Rattle.area_core.specs.Map.{word_at}
use Rattle.area_core.specs.Blocks.{term_blocks_words}
use Rattle.area_core.specs.Terms.{are_buckets_known}
use Rattle.area_core.proofs.terms.are_buckets_known.Given as goal

-- whether the buckets so far are known
abbrev pub invariant-loop-bucket : goal.invariant-loop-bucket
invariant-loop-bucket l = l.known ≡ are_buckets_known (term_blocks_words (word_at l.fn.words) l.fn.root) l.fn.keys l.bucket
