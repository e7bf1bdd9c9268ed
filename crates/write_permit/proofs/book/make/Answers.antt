-- The module table can follow the entry that joined, and agrees with the server again.
use Rattle.std.proofs.Common.{Some, refl, sym, ap, subst, ◌∙◌}
use Rattle.write_permit.specs.Agreement.{AgreesWithServer}
use Rattle.write_permit.proofs.Agreement.{newest_follows}
use Rattle.write_permit.proofs.book.make.Goals as goal

pub follow_newest-requires : goal.follow_newest-requires
follow_newest-requires c =
    let f =
    newest_follows c.args.book.now.script.modules c.make_room.new.table c.args.book.now.server c.make-answer.new.self c.make-answer.result c.args.cmd c.args.book.now.journal c.push.new.self
    (record { who = c.args.who; cmd = c.args.cmd; reply = c.in_ok-applied.applied.reply; published = c.in_ok-applied.applied.published })
    (subst (λ ms. AgreesWithServer ms c.args.book.now.server) (sym c.make_room.ensures.same) c.requires.agrees)
    (c.in_ok-change.ensures.ok ∙ ap Some c.make-answer.ensures.value)
    c.in_ok-make_room.ensures.ok
    refl
    (ap (λ a. a.published) (c.in_ok-applied.ensures c.args.book.now.server c.in_ok-change.ensures.fits ∙ ap (λ o. o.answer) c.make-answer.ensures.value))
    c.in_ok-push.ensures.ok in
    f.can

pub returns-clause-agrees : goal.returns-clause-agrees
returns-clause-agrees c =
    let f =
    newest_follows c.args.book.now.script.modules c.make_room.new.table c.args.book.now.server c.make-answer.new.self c.make-answer.result c.args.cmd c.args.book.now.journal c.push.new.self
    (record { who = c.args.who; cmd = c.args.cmd; reply = c.in_ok-applied.applied.reply; published = c.in_ok-applied.applied.published })
    (subst (λ ms. AgreesWithServer ms c.args.book.now.server) (sym c.make_room.ensures.same) c.requires.agrees)
    (c.in_ok-change.ensures.ok ∙ ap Some c.make-answer.ensures.value)
    c.in_ok-make_room.ensures.ok
    refl
    (ap (λ a. a.published) (c.in_ok-applied.ensures c.args.book.now.server c.in_ok-change.ensures.fits ∙ ap (λ o. o.answer) c.make-answer.ensures.value))
    c.in_ok-push.ensures.ok in
    subst (λ ms. AgreesWithServer ms c.make-answer.new.self) (sym c.follow_newest.ensures) f.agrees
