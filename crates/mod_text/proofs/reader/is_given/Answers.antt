-- A test of each header is one of each form.
use Rattle.mod_text.proofs.Common.{◌∙◌, sym}
use Rattle.term_core.proofs.Lists.{any_map}
use Rattle.mod_text.proofs.Forms.{is_header}
use Rattle.mod_text.proofs.reader.is_given.Goals as goal

pub returns : goal.returns
returns c = c.has_header.ensures ∙ sym (any_map (is_header c.args.name.now c.args.arity.now) (λ h. (h.0.now, h.1.now)) c.args.functions.now)
