use Rattle.report_text.proofs.Common.{length, ap, arith, option_map}
use Rattle.report_text.proofs.Texts.{parts_of_terms, parts_of_rest, left_behind, parts_cut, less_left}
use Rattle.report_text.proofs.ReadingLoops.{many_parts, some_parts}
use Rattle.report_text.proofs.terms.has_few_parts.Goals as goal

-- there is a sixteenth part
pub returns-then-count-eq-MOST_ARGUMENTS : goal.returns-then-count-eq-MOST_ARGUMENTS
returns-then-count-eq-MOST_ARGUMENTS c =
    let l = c.parts in
    let here = ap (λ o. length (parts_of_rest (option_map (λ rest. rest.now) o))) c.in-Some.is in
    let more = some_parts c.in-Some.left.now in
    many_parts l.count (length (parts_of_terms c.in-Some.left.now)) (length (parts_of_terms c.args.text.now)) (omega (arith, here, l.invariant.all)) more (omega arith)

-- a part is counted
pub parts-preserved : goal.parts-preserved
parts-preserved c =
    let l = c.parts in
    let here = ap (λ o. length (parts_of_rest (option_map (λ rest. rest.now) o))) c.in-Some.is in
    let parts = ap length (parts_cut c.in-Some.left.now c.cut_term.result.0.now (option_map (λ rest. rest.now) c.cut_term.result.1) c.cut_term.ensures.front c.cut_term.ensures.rest) in
    record { all = omega (arith, here, parts, l.invariant.all); few = omega (arith, l.invariant.few) }

-- what is behind it is shorter
pub parts-smaller : goal.parts-smaller
parts-smaller c = less_left _ _ c.in-Some.left.now (ap (option_map (λ rest. rest.now)) c.in-Some.is) (left_behind c.in-Some.left.now (option_map (λ rest. rest.now) c.cut_term.result.1) c.cut_term.ensures.rest)
