-- What is kept after another line.
use Rattle.mod_text.proofs.Common.{ap, ◌∙◌}
use Rattle.mod_text.proofs.Forms.{may_follow, last_line, line_form}
use Rattle.mod_text.proofs.Keepings.{kept_other}
use Rattle.mod_text.proofs.reader.ModuleReader.keep_other.Goals as goal

pub invariant_of-self-2 : goal.invariant_of-self-2
invariant_of-self-2 c =
    kept_other c.self.inside.lines.items c.push.new.self.items c.args.text _ c.args.line c.self.inside.functions.items c.self.inside.labels.keys c.self.invariant c.requires.kept
    (ap (λ ls. may_follow (last_line ls) (line_form c.args.line)) c.self.view_is ∙ c.requires.place) c.requires.other c.requires.said c.in_ok-push.ensures.items
