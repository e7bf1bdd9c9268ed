use Rattle.script_text.proofs.Common.{◌≡◌, ◌∷◌, arith, append_assoc, common_steps, IfOk-equal}
use Rattle.term_core.proofs.Text.Starts.{starts_own, starts_same, starts_more}
use Rattle.script_text.proofs.PrintedText.{terms_written}
use Rattle.script_text.proofs.printing.write_terms.Goals as goal

-- nothing was appended
pub returns-in_err-print_term-clause-kept : goal.returns-in_err-print_term-clause-kept
returns-in_err-print_term-clause-kept c = starts_same _ _ c.in_err-print_term.ensures.err

-- the first term and the others
pub returns-clause-ok : goal.returns-clause-ok
returns-clause-ok c =
    let e : c.args.terms.now ≡ c.in-Some.first.now ∷ c.in-Some.others.now = grind (arith, common_steps) in
    let j = terms_written c.args.names.now _ _ _ e in
    IfOk-equal _ _ _ _ c.write_other_terms.ensures.ok (rw (c.in_ok-print_term.ensures.ok, j) (simp append_assoc))

-- what was appended before and the part of the last call
pub returns-clause-kept : goal.returns-clause-kept
returns-clause-kept c = starts_more _ _ _ (starts_own _ _ _ c.in_ok-print_term.ensures.ok) c.write_other_terms.ensures.kept
