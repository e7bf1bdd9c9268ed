-- The line that was read, or the end where there is none.
use Rattle.mod_text.proofs.Common.{sym, ap, ◌∙◌}
use Rattle.std.specs.Prelude.{option_map}
use Rattle.mod_text.proofs.Forms.{line_form}
use Rattle.mod_text.proofs.Keepings.{text_form_is}
use Rattle.mod_text.proofs.line.line_of.Goals as goal

pub returns-in-Some : goal.returns-in-Some
returns-in-Some c = sym (text_form_is c.args.text.now _ (sym (ap (option_map line_form) c.in-Some.is) ∙ c.split_line.ensures.split))

pub returns-in-None : goal.returns-in-None
returns-in-None c = sym (text_form_is c.args.text.now _ (sym (ap (option_map line_form) c.in-None.is) ∙ c.split_line.ensures.split))
