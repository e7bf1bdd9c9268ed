use Rattle.std.proofs.Common.{sym, ◌∙◌}
use Rattle.area_core.specs.Map.{word_at}
use Rattle.area_core.specs.Blocks.{term_blocks_words}
use Rattle.area_core.proofs.Buckets.{known_within}
use Rattle.area_core.proofs.terms.bucket_of.Goals as goal

-- the bucket that is known is one of the block
pub returns-in-Some-clause-within : goal.returns-in-Some-clause-within
returns-in-Some-clause-within c = known_within (term_blocks_words (word_at c.args.words.now) c.args.root) c.args.key c.in-Some.known (sym c.in-Some.is ∙ c.looked.ensures)
