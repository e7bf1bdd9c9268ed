-- The next generation may be published behind the wait, and the indices stay those of the writer.
use Rattle.progress_words.specs.Tokens.{written_by}
use Rattle.progress_words.proofs.Rooted.{some_published}
use Rattle.code_index.proofs.Commits.{owned_yet, asked_by, may_publish_now, owned_now}
use Rattle.code_index.proofs.index.CodeIndex.commit.Goals as goal

pub returns-in_err-reached-clause-owned : goal.returns-in_err-reached-clause-owned
returns-in_err-reached-clause-owned g c =
    let old = written_by c.args.writer.now in
    let new = written_by c.reached.new.writer in
    let asked = asked_by c.self.inside.staging c.args.self.now c.need-need.new.self old (written_by c.need-need.new.writer) new c.need-need.result c.self.view_is c.need-need.ensures.begun c.reached.ensures.loaded in
    owned_yet c.args.self.now c.need-need.new.self old new c.need-need.result asked c.requires.owned

pub publish-requires-clause-may : goal.publish-requires-clause-may
publish-requires-clause-may g c =
    let old = written_by c.args.writer.now in
    let new = written_by c.reached.new.writer in
    let root = c.newest_root-root in
    let asked = asked_by c.self.inside.staging c.args.self.now c.need-need.new.self old (written_by c.need-need.new.writer) new c.need-need.result c.self.view_is c.need-need.ensures.begun c.reached.ensures.loaded in
    may_publish_now g.N.Served.served c.args.self.now c.need-need.new.self old (g.M.Next.next c.args.next.now) (g.M.Next.blocks c.args.next.now) c.requires.next c.requires.owned (some_published _ _ c.args.writer.now c.requires.token)
    new c.need-need.result asked c.in_ok-reached.ensures.ok (written_by root.new.writer) root.ensures.view root.result root.ensures.root c.block-block.result c.block-block.ensures

pub returns-clause-owned : goal.returns-clause-owned
returns-clause-owned g c =
    let old = written_by c.args.writer.now in
    let new = written_by c.reached.new.writer in
    let root = c.newest_root-root in
    let asked = asked_by c.self.inside.staging c.args.self.now c.need-need.new.self old (written_by c.need-need.new.writer) new c.need-need.result c.self.view_is c.need-need.ensures.begun c.reached.ensures.loaded in
    owned_now g.N.Served.served c.args.self.now c.need-need.new.self old (g.M.Next.next c.args.next.now) (g.M.Next.blocks c.args.next.now) c.requires.next c.requires.owned (some_published _ _ c.args.writer.now c.requires.token)
    new c.need-need.result asked c.in_ok-reached.ensures.ok (written_by root.new.writer) root.ensures.view root.result root.ensures.root c.block-block.result c.block-block.ensures
    (written_by c.publish.new.writer) c.publish.ensures.published
