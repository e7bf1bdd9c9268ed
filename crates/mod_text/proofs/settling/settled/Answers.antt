-- What goes to a label or calls a local function is settled by its own function.
use Rattle.std.proofs.Common.{◌≡◌, sym, ap, ◌∙◌, subst, IfOk}
use Rattle.mod_text.specs.declared.written.WrittenInstr.{WrittenInstr}
use Rattle.mod_text.proofs.Forms.{instr_form, headers_of, settled_instr}
use Rattle.mod_text.proofs.settling.settled.Goals as goal

pub returns-in-Eq : goal.returns-in-Eq
returns-in-Eq c = λ body are.
    subst (λ (i : WrittenInstr). IfOk c.eq_of.result (λ s. s ≡ settled_instr c.args.names.now (headers_of c.args.functions.now) body (instr_form i))) (sym c.in-Eq.is)
    (c.eq_of.ensures (headers_of c.args.functions.now) body are)

pub returns-in-Less : goal.returns-in-Less
returns-in-Less c = λ body are.
    subst (λ (i : WrittenInstr). IfOk c.less_of.result (λ s. s ≡ settled_instr c.args.names.now (headers_of c.args.functions.now) body (instr_form i))) (sym c.in-Less.is)
    (c.less_of.ensures (headers_of c.args.functions.now) body are)

pub returns-in-Jump : goal.returns-in-Jump
returns-in-Jump c = λ body are.
    c.jump_of.ensures c.args.names.now (headers_of c.args.functions.now) body are
    ∙ sym (ap (λ (i : WrittenInstr). settled_instr c.args.names.now (headers_of c.args.functions.now) body (instr_form i)) c.in-Jump.is)

pub returns-in-Call : goal.returns-in-Call
returns-in-Call c = λ body are.
    c.call_of.ensures c.args.names.now body
    ∙ sym (ap (λ (i : WrittenInstr). settled_instr c.args.names.now (headers_of c.args.functions.now) body (instr_form i)) c.in-Call.is)
