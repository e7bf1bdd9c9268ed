-- The root is stored with the staging index, once the value is reached.
use Rattle.std.proofs.lemmas.Result.{err_from_is_err_and}
use Rattle.progress_words.specs.Tokens.{written_by}
use Rattle.std.proofs.Common.{refl}
use Rattle.breakpoints.proofs.PatchCalls.{still_at_phase, waits_on}
use Rattle.breakpoints.proofs.SwitchCalls.{may_switch_now, switch_stands, switches}
use Rattle.breakpoints.proofs.patch.Patch.switch.Goals as goal

pub returns-in_err-reached-clause-patch : goal.returns-in_err-reached-clause-patch
returns-in_err-reached-clause-patch g c =
    still_at_phase c.args.self.now (written_by c.args.writer.now) (written_by c.reached.new.writer) c.reached.ensures.loaded c.requires.patch

pub returns-in_err-reached-clause-waits : goal.returns-in_err-reached-clause-waits
returns-in_err-reached-clause-waits g c =
    let p = err_from_is_err_and c.from_residual.result c.from_residual.ensures.1 in
    rw (p.1, p.2) (waits_on c.args.self.now (written_by c.args.writer.now) (written_by c.reached.new.writer) c.args.need c.in_err-reached.field-0.0 c.requires.phase c.reached.ensures.loaded c.in_err-reached.ensures.below)

pub publish-requires-clause-may : goal.publish-requires-clause-may
publish-requires-clause-may g c =
    let root = c.newest_root-root in
    may_switch_now g.N.Served.served c.args.self.now (written_by c.args.writer.now) (written_by c.reached.new.writer) c.args.need (g.M.Next.next c.args.next.now) (g.M.Next.blocks c.args.next.now)
    c.requires.patch c.requires.due c.requires.phase c.requires.next c.reached.ensures.loaded (written_by root.new.writer) root.ensures.view root.result root.ensures.root

pub returns-clause-patch : goal.returns-clause-patch
returns-clause-patch g c =
    let root = c.newest_root-root in
    switch_stands g.N.Served.served c.args.self.now (written_by c.args.writer.now) (written_by c.reached.new.writer) c.args.need (g.M.Next.next c.args.next.now) (g.M.Next.blocks c.args.next.now)
    c.requires.patch c.requires.due c.requires.phase c.requires.next c.reached.ensures.loaded (written_by root.new.writer) root.ensures.view root.result root.ensures.root
    (written_by c.publish.new.writer) (written_by c.later-need.new.writer) c.later-need.result c.publish.ensures.published c.later-need.ensures.loaded c.later-need.ensures.taken

pub returns-clause-answers : goal.returns-clause-answers
returns-clause-answers g c =
    let root = c.newest_root-root in
    switches g.N.Served.served c.args.self.now (written_by c.args.writer.now) (written_by c.reached.new.writer) c.args.need (g.M.Next.next c.args.next.now) (g.M.Next.blocks c.args.next.now)
    c.requires.patch c.requires.due c.requires.phase c.requires.next c.reached.ensures.loaded (written_by root.new.writer) root.ensures.view root.result root.ensures.root
    (written_by c.publish.new.writer) (written_by c.later-need.new.writer) c.later-need.result c.publish.ensures.published c.later-need.ensures.loaded c.later-need.ensures.taken
    _ _ refl refl c.in_ok-reached.ensures.ok
