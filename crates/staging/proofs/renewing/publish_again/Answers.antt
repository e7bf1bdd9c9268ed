-- The blocks that the root word names are those of the newest generation.
use Rattle.progress_words.specs.Tokens.{written_by}
use Rattle.staging.proofs.Renewals.{may_over, stored_over}
use Rattle.staging.proofs.renewing.publish_again.Goals as goal

pub publish_over-requires-clause-may : goal.publish_over-requires-clause-may
publish_over-requires-clause-may g c =
    let root = c.newest_root-root in
    may_over g.N.Served.served (written_by c.args.writer.now) (g.M.Next.next c.args.next.now) (g.M.Next.blocks c.args.next.now) (written_by root.new.writer) root.ensures.view root.result root.ensures.root c.requires.next

pub returns-clause-published : goal.returns-clause-published
returns-clause-published g c =
    let root = c.newest_root-root in
    stored_over g.N.Served.served (written_by c.args.writer.now) (g.M.Next.next c.args.next.now) (g.M.Next.blocks c.args.next.now) (written_by root.new.writer) root.ensures.view root.result root.ensures.root
    (written_by c.publish_over.new.writer) c.publish_over.ensures.published
