-- The words of a byte and of what is behind it.
use Rattle.std.proofs.Common.{get_or, refl, arith}
use Rattle.term_core.proofs.TokenSteps.{words_behind}
use Rattle.term_core.proofs.leaves.words_in.Goals as goal

-- what is counted and what is left are the whole again
pub loop-byte-preserved : goal.loop-byte-preserved
loop-byte-preserved c =
    let step = words_behind c.args.text.now c.loop-byte.byte-index (get_or c.args.text.now c.loop-byte.byte-index 0) c.loop-byte.inside c.is_leaf_kind-inside.result c.kind_of-kind.result refl (omega arith) c.kind_of-kind.ensures c.is_leaf_kind-inside.ensures in
    record { whole = omega (arith, step, c.loop-byte.invariant.whole, c.word_at-words.ensures.value); few = omega arith }
