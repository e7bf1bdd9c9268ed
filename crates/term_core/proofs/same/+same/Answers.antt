-- What the comparison of two rows answers, by the terms that are left.
use Rattle.std.proofs.Common.{◌+◌, [], length, map, drop, sym, ap, ◌∙◌, arith, ◌&&◌}
use Rattle.std.proofs.lemmas.List.{drop_all, length-map}
use Rattle.term_core.specs.Plain.{plain}
use Rattle.term_core.specs.Same.{are_same}
use Rattle.term_core.proofs.SameTerms.{same_from, same_length}
use Rattle.term_core.proofs.same.+same.Goals as goal
use Rattle.std.proofs.lemmas.Bool.{false_from_ne_true}

-- at the start all is left
pub are_same-loop-at-init : goal.are_same-loop-at-init
are_same-loop-at-init t c =
    ap (λ ts. are_same ts c.args.others.now) (sym c.terms.view_is)
    ∙ ap (are_same (map plain c.terms.inside.items.items)) (sym c.others.view_is)
    ∙ ap (λ ts. are_same (map plain ts) (map plain c.others.inside.items.items)) (sym c.deref-term-items.ensures.value)

-- lists of other lengths are not the same
pub are_same-returns-then-len : goal.are_same-returns-then-len
are_same-returns-then-len t c =
    sym (false_from_ne_true (are_same c.args.terms.now c.args.others.now) (λ h. omega (arith, same_length c.args.terms.now c.args.others.now h, ap length c.terms.view_is, ap length c.others.view_is, length-map c.terms.inside.items.items plain, length-map c.others.inside.items.items plain, c.if-len.true)))

-- where two terms differ, so do the lists
pub are_same-returns-then-not-is_same : goal.are_same-returns-then-not-is_same
are_same-returns-then-not-is_same t c =
    let step = same_from c.deref-term-items.result.now c.others.inside.items.items c.loop-at.at c.term-item.result c.index.result.now c.term-item.is c.index.ensures (omega arith) (omega arith) in
    sym (c.loop-at.invariant ∙ step ∙ ap (λ b. b && are_same (map plain (drop (c.loop-at.at + 1) c.deref-term-items.result.now)) (map plain (drop (c.loop-at.at + 1) c.others.inside.items.items))) (sym c.is_same.ensures ∙ c.if-not-is_same.true))

-- where they are the same, what is behind them decides
pub are_same-loop-at-preserved : goal.are_same-loop-at-preserved
are_same-loop-at-preserved t c =
    let step = same_from c.deref-term-items.result.now c.others.inside.items.items c.loop-at.at c.term-item.result c.index.result.now c.term-item.is c.index.ensures (omega arith) (omega arith) in
    c.loop-at.invariant ∙ step ∙ ap (λ b. b && are_same (map plain (drop (c.loop-at.at + 1) c.deref-term-items.result.now)) (map plain (drop (c.loop-at.at + 1) c.others.inside.items.items))) (sym c.is_same.ensures ∙ c.if-not-is_same.false)

-- at the end nothing is left of either
pub are_same-returns : goal.are_same-returns
are_same-returns t c =
    sym (c.loop-at.invariant
    ∙ ap (λ ts. are_same (map plain ts) (map plain (drop c.loop-at.at c.others.inside.items.items))) (drop_all c.loop-at.at c.deref-term-items.result.now (omega arith))
    ∙ ap (λ ts. are_same [] (map plain ts)) (drop_all c.loop-at.at c.others.inside.items.items (omega arith)))
