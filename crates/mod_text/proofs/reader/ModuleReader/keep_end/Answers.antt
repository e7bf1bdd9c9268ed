-- The end of a module: its image is too long, or the line is kept.
use Rattle.mod_text.proofs.Common.{nat_le, ap, ◌∙◌, refl}
use Rattle.mod_text.proofs.Forms.{forms_of, lines_words}
use Rattle.mod_text.proofs.Keepings.{end_refused, end_kept, gives_kept}
use Rattle.mod_text.proofs.reader.ModuleReader.keep_end.Goals as goal

pub returns-then-not-is_short-clause-kept : goal.returns-then-not-is_short-clause-kept
returns-then-not-is_short-clause-kept c =
    end_refused c.args.self.now c.self.inside.lines.items c.is_short.result c.self.invariant.row c.self.invariant.each c.self.view_is
    (c.is_short.ensures ∙ ap (λ ls. nat_le (lines_words (forms_of ls)) 1024) c.deref.ensures.value) c.if-not-is_short.true

pub returns-clause-kept : goal.returns-clause-kept
returns-clause-kept c = λ names.
    gives_kept _ c.keep_other.result _ c.keep_other.new.self _ _ c.keep_other.ensures.ok c.keep_other.ensures.err
    (end_kept c.args.self.now c.self.inside.lines.items c.is_short.result c.self.invariant.row c.self.invariant.each c.self.view_is
    (c.is_short.ensures ∙ ap (λ ls. nat_le (lines_words (forms_of ls)) 1024) c.deref.ensures.value) c.if-not-is_short.false names) (λ x. refl)
