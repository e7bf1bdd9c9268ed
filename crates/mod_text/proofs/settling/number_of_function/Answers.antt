-- The place among the headers is the function's number.
use Rattle.mod_text.proofs.Common.{◌∙◌, sym}
use Rattle.mod_text.proofs.Forms.{is_header}
use Rattle.mod_text.proofs.Texts.{position-map}
use Rattle.mod_text.proofs.settling.number_of_function.Goals as goal

pub returns-in_err-number : goal.returns-in_err-number
returns-in_err-number c =
    c.from_residual.ensures ∙ sym (position-map (is_header c.args.name.now c.args.arity.now) (λ h. (h.0.now, h.1.now)) c.args.functions.now ∙ sym c.place_of_header.ensures ∙ c.in_err-number.was)

pub returns : goal.returns
returns c =
    sym (position-map (is_header c.args.name.now c.args.arity.now) (λ h. (h.0.now, h.1.now)) c.args.functions.now ∙ sym c.place_of_header.ensures ∙ c.in_ok-number.was)
