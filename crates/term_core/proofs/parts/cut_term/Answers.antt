-- What each byte leaves of the cut.
use Rattle.std.proofs.Common.{get_or, refl, sym, ◌∙◌, subst, ℕ, ◌+◌, arith}
use Rattle.term_core.specs.TermParts.{cut_part}
use Rattle.term_core.proofs.CutTerms.{IsCut, cut_start, cut_here, cut_behind, cut_nowhere}
use Rattle.term_core.proofs.parts.cut_term.Goals as goal

-- the start
pub loop-at-init : goal.loop-at-init
loop-at-init c = record { cut = cut_start c.args.text.now; few = omega arith }

-- the comma
pub returns-then-is_part_end : goal.returns-then-is_part_end
unfolding cut_part
returns-then-is_part_end c =
    let here = cut_here c.args.text.now c.loop-at.at c.loop-at.depth (get_or c.args.text.now c.loop-at.at 0) refl c.loop-at-test.true (sym c.is_part_end.ensures ∙ c.if-is_part_end.true) c.loop-at.invariant.cut in
    record { front = here.0; rest = here.1 }

-- another byte
pub loop-at-preserved : goal.loop-at-preserved
loop-at-preserved c =
    let behind = cut_behind c.args.text.now c.loop-at.at c.loop-at.depth (get_or c.args.text.now c.loop-at.at 0) refl c.loop-at-test.true (sym c.is_part_end.ensures ∙ c.if-is_part_end.false) c.loop-at.invariant.cut in
    let P : ℕ → Type 0 = λ depth. IsCut c.args.text.now (c.loop-at.at + 1) depth in
    record { cut = subst P (sym c.depth_behind-depth.ensures.value) behind; few = omega arith }

-- the end
pub returns : goal.returns
unfolding cut_part
returns c =
    let none = cut_nowhere c.args.text.now c.loop-at.at c.loop-at.depth c.loop-at-test.false c.loop-at.invariant.cut in
    record { front = none.0; rest = none.1 }
