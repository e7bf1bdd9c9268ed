-- What is staged may be published, and the tables stay those of the writer.
use Rattle.std.proofs.Common.{ap}
use Rattle.progress_words.specs.Tokens.{written_by}
use Rattle.term_table.specs.Tables.{Terms}
use Rattle.term_table.proofs.Owned.{may_publish_now, owned_now, published_now}
use Rattle.term_table.proofs.table.TermTable.publish.Goals as goal

pub publish_over-requires-clause-may : goal.publish_over-requires-clause-may
publish_over-requires-clause-may g c =
    let root = c.newest_root-root in
    may_publish_now g.N.Served.served c.args.self.now (written_by c.args.writer.now) (g.M.Next.next c.args.next.now) (g.M.Next.blocks c.args.next.now) c.requires.next c.requires.owned (written_by root.new.writer) root.ensures.view root.result root.ensures.root

pub returns-clause-owned : goal.returns-clause-owned
returns-clause-owned g c =
    let root = c.newest_root-root in
    let loaded = c.later.ensures.loaded in
    owned_now g.N.Served.served c.args.self.now (written_by c.args.writer.now) (g.M.Next.next c.args.next.now) (g.M.Next.blocks c.args.next.now) c.requires.next c.requires.owned (written_by root.new.writer) root.ensures.view root.result root.ensures.root
    c.self.inside.needs c.later.result loaded.counter (written_by c.publish_over.new.writer) (written_by c.later.new.writer) (ap (λ (t : Terms). t.needs) c.self.view_is) c.publish_over.ensures.published loaded.view c.later.ensures.need

pub returns-clause-published : goal.returns-clause-published
returns-clause-published g c =
    let root = c.newest_root-root in
    published_now g.N.Served.served c.args.self.now (written_by c.args.writer.now) (g.M.Next.next c.args.next.now) (g.M.Next.blocks c.args.next.now) c.requires.next c.requires.owned (written_by root.new.writer) root.ensures.view root.result root.ensures.root
    c.self.inside.needs c.later.result (written_by c.publish_over.new.writer) (written_by c.later.new.writer) (ap (λ (t : Terms). t.needs) c.self.view_is) c.publish_over.ensures.published c.later.ensures.loaded c.later.ensures.need
