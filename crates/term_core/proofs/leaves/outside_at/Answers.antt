-- Where no such integer begins, the first is behind.
use Rattle.std.proofs.Common.{get_or, ◌∙◌, ◌&&◌, sym, refl, ap, arith}
use Rattle.term_core.specs.Bytes.{leaf_front}
use Rattle.term_core.specs.Tokens.{begins, is_outside}
use Rattle.term_core.proofs.Lefts.{rest_is}
use Rattle.term_core.proofs.TokenSteps.{outside_behind}
use Rattle.term_core.proofs.leaves.outside_at.Goals as goal

-- by the byte that was passed
pub loop-at-preserved : goal.loop-at-preserved
loop-at-preserved c =
    sym (outside_behind c.args.text.now c.loop-at.at (get_or c.args.text.now c.loop-at.at 0) c.loop-at.inside c.is_leaf_kind-inside.result c.kind_of-kind.result refl (omega arith) c.kind_of-kind.ensures c.is_leaf_kind-inside.ensures (ap (λ rest. begins c.loop-at.inside c.kind_of-kind.result && is_outside (leaf_front rest)) (sym (rest_is c.args.text.now c.loop-at.at)) ∙ sym c.begins_outside.ensures ∙ c.if-begins_outside.false)) ∙ c.loop-at.invariant
