-- The function that a header begins.
use Rattle.mod_text.proofs.Common.{◌∙◌, sym, ap, ◌++◌, subst, All}
use Rattle.mod_text.proofs.Forms.{line_form, headers_of, forms_of, IsKept}
use Rattle.mod_text.proofs.Settles.{kept_body, header_function}
use Rattle.mod_text.proofs.settling.settle_function.Goals as goal

pub settled_code-requires-clause-kept : goal.settled_code-requires-clause-kept
settled_code-requires-clause-kept c = subst (All IsKept) (sym c.body_of.ensures.body) (kept_body (forms_of c.args.behind.now) c.requires.each)

pub returns-clause-ok : goal.returns-clause-ok
returns-clause-ok c =
    rw (sym c.line_of.ensures ∙ ap line_form c.in-Header.is) (c.in_ok-push.ensures.ok ∙ ap (λ fs. c.args.settled.now ++ fs)
    (header_function c.args.names.now (headers_of c.args.functions.now) (forms_of c.args.behind.now) (forms_of c.body_of.result.now) _ c.in-Header.name.now c.in-Header.arity.now c.atom_of.result c.value_of.result c.in_ok-code.code c.atom_of.ensures c.value_of.ensures c.in_ok-code.ensures.ok c.body_of.ensures.body))
