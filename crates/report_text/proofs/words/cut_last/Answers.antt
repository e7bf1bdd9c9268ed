use Rattle.report_text.proofs.Common.{ℕ, ◌-◌, List, Some, take, sym, ap, ◌∙◌, arith}
use Rattle.report_text.proofs.TermLaws.{cut_there, rest_is, lacks_all}
use Rattle.report_text.proofs.words.cut_last.Goals as goal

-- the byte stands there, and no more behind it
pub returns-then-text-place : goal.returns-then-text-place
returns-then-text-place c =
    let l = c.loop-end in
    let text = c.args.text.now in
    ap (λ (r : List ℕ). Some (take (l.end - 1) text, r)) (rest_is text l.end) ∙ sym (cut_there c.args.byte text (l.end - 1) l.end (omega arith) (omega arith) c.if-text-place.true l.invariant.passed)

-- it is nowhere
pub returns : goal.returns
returns c = sym (lacks_all c.args.byte c.args.text.now c.loop-end.end (omega arith) c.loop-end.invariant.passed)
