use Rattle.std.proofs.Common.{◌≡◌}
use Rattle.area_core.specs.Map.{word_at}
use Rattle.area_core.specs.Blocks.{term_blocks_words}
use Rattle.area_core.specs.Terms.{looked}
use Rattle.area_core.proofs.terms.looked.Given as goal

-- what is known after the buckets so far
abbrev pub invariant-loop-tried : goal.invariant-loop-tried
invariant-loop-tried l = l.known ≡ looked (term_blocks_words (word_at l.fn.words) l.fn.root) l.fn.key l.tried
