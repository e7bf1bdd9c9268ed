-- What is kept after a header.
use Rattle.mod_text.proofs.Common.{ap, ◌∙◌, arith}
use Rattle.mod_text.proofs.Forms.{may_follow, last_line, line_form}
use Rattle.mod_text.proofs.Keepings.{kept_header, pushed_ok}
use Rattle.mod_text.proofs.reader.ModuleReader.keep_header.Goals as goal

pub invariant_of-self-2 : goal.invariant_of-self-2
invariant_of-self-2 c =
    kept_header c.self.inside.lines.items c.push.new.self.items c.args.text _ c.args.line c.self.inside.functions.items c.push-2.new.self.items c.self.inside.labels.keys c.clear.new.self.keys c.args.name c.args.arity c.self.invariant c.requires.kept
    (ap (λ ls. may_follow (last_line ls) (line_form c.args.line)) c.self.view_is ∙ c.requires.place) c.requires.header c.requires.said c.in_ok-push.ensures.items
    (pushed_ok c.push-2.new.self.items c.self.inside.functions.items (c.args.name, c.args.arity) _ c.is_err.result c.push-2.ensures.items c.is_err.ensures.negation c.if-is_err.false) c.clear.ensures.empty (omega arith)
