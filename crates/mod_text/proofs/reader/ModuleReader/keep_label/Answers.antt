-- What is kept after a label.
use Rattle.mod_text.proofs.Common.{sym, ap, ◌∙◌}
use Rattle.mod_text.proofs.Forms.{may_follow, last_line, line_form}
use Rattle.mod_text.proofs.Keepings.{kept_label, on_ok}
use Rattle.mod_text.proofs.reader.ModuleReader.keep_label.Goals as goal

pub invariant_of-self-2 : goal.invariant_of-self-2
invariant_of-self-2 c =
    kept_label c.self.inside.lines.items c.push.new.self.items c.args.text _ c.args.line c.self.inside.functions.items c.self.inside.labels.keys c.add_label.new.labels.keys c.args.name c.self.invariant c.requires.kept
    (ap (λ ls. may_follow (last_line ls) (line_form c.args.line)) c.self.view_is ∙ c.requires.place) c.requires.label c.requires.said c.in_ok-push.ensures.items
    (on_ok c.add_label.result _ c.add_label.ensures.ok (sym c.is_err.ensures.value ∙ c.if-is_err.false))
