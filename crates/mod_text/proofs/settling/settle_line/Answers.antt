-- A line is settled as its instruction is.
use Rattle.mod_text.proofs.Common.{◌∙◌, sym, ap, ◌∷◌, [], ◌++◌}
use Rattle.mod_text.proofs.Forms.{line_form, headers_of}
use Rattle.mod_text.proofs.Settles.{settled_is}
use Rattle.mod_text.proofs.settling.settle_line.Goals as goal

pub returns-in_ok-push-in-Some-clause-settled : goal.returns-in_ok-push-in-Some-clause-settled
returns-in_ok-push-in-Some-clause-settled c = λ body are.
    rw (sym c.line_of.ensures ∙ ap line_form c.in-Instr.is)
    (sym (settled_is c.args.names.now (headers_of c.args.functions.now) body _ c.in-Some.instr (sym c.in-Some.is ∙ c.in_ok-settled.ensures body are)).0)

pub returns-in_ok-push-in-Some-clause-code : goal.returns-in_ok-push-in-Some-clause-code
returns-in_ok-push-in-Some-clause-code c = λ body are.
    rw (sym c.line_of.ensures ∙ ap line_form c.in-Instr.is)
    (c.in_ok-push-in-Some.ensures.ok ∙ ap (λ i. c.args.code.now ++ i ∷ []) (settled_is c.args.names.now (headers_of c.args.functions.now) body _ c.in-Some.instr (sym c.in-Some.is ∙ c.in_ok-settled.ensures body are)).1)
