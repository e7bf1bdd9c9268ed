-- The blocks that the root word names are those of the newest generation, and what was clear is so still.
use Rattle.std.proofs.Common.{sym, subst}
use Rattle.marks.specs.declared.kept.LookKind.TheVariants.{Frame}
use Rattle.shared_words.specs.declared.view.WriterView.{WriterView}
use Rattle.shared_words.specs.Drops.{AgreesWithLooks, drop_of}
use Rattle.shared_words.specs.Slots.{IsClear}
use Rattle.progress_words.specs.Tokens.{written_by}
use Rattle.staging.proofs.Renewals.{dropped_over, may_over}
use Rattle.staging.proofs.renewing.publish_dropping.Goals as goal

pub publish_over_dropping-requires-clause-may : goal.publish_over_dropping-requires-clause-may
publish_over_dropping-requires-clause-may g c =
    let root = c.newest_root-root in
    may_over g.N.Served.served (written_by c.args.writer.now) (g.M.Next.next c.args.next.now) (g.M.Next.blocks c.args.next.now) (written_by root.new.writer) root.ensures.view root.result root.ensures.root c.requires.next

pub publish_over_dropping-requires-clause-clear : goal.publish_over_dropping-requires-clause-clear
publish_over_dropping-requires-clause-clear g c = subst (λ (w : WriterView). IsClear w Frame c.args.area.serial) (sym c.newest_root-root.ensures.view) c.requires.clear

pub returns-clause-published : goal.returns-clause-published
returns-clause-published g c =
    let root = c.newest_root-root in
    dropped_over g.N.Served.served (written_by c.args.writer.now) (g.M.Next.next c.args.next.now) (g.M.Next.blocks c.args.next.now) (written_by root.new.writer) root.ensures.view root.result root.ensures.root
    c.args.area.serial (written_by c.publish_over_dropping.new.writer) c.publish_over_dropping.ensures.published

pub returns-clause-agree : goal.returns-clause-agree
returns-clause-agree g c = subst (λ (w : WriterView). AgreesWithLooks w.looks (drop_of w Frame c.args.area.serial)) c.newest_root-root.ensures.view c.publish_over_dropping.ensures.agree
