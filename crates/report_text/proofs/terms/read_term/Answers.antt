use Rattle.report_text.proofs.Common.{◌≡◌, Some, ap, ◌∙◌, arith, option_map, common_steps}
use Rattle.report_text.proofs.Texts.{plain, term_of, term_of-plain}
use Rattle.report_text.proofs.Forms.{plain_reading}
use Rattle.report_text.proofs.terms.read_term.Goals as goal

-- the term of what was read is the term
pub returns-then-branch-clause-term : goal.returns-then-branch-clause-term
returns-then-branch-clause-term c =
    let shown : plain_reading c.args.names.now c.args.text.now ≡ Some (plain c.in_ok-term.term) = grind (arith, common_steps) in
    ap (option_map term_of) shown ∙ ap (λ t. Some t) (term_of-plain c.in_ok-term.term)
