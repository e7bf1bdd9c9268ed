-- The table follows the newest entry over the server that made the change.
use Rattle.std.proofs.Common.{ap, subst}
use Rattle.server_core.specs.CommandTable.{Outcome}
use Rattle.write_permit.specs.Agreement.{CanFollowNewest, newest_of}
use Rattle.word_permit.proofs.Settling.{is_finished}
use Rattle.word_permit.proofs.going_on.finish_change.Goals as goal

pub follow_newest-requires : goal.follow_newest-requires
follow_newest-requires c = subst (λ s. CanFollowNewest c.args.book.now.modules s (newest_of c.args.book.now.journal)) (ap (λ (o : Outcome). o.state) c.make-answer.ensures.value) c.requires.can

pub returns : goal.returns
returns c =
    is_finished c.args.who c.args.change c.args.after c.args.book.now c.set_free.new.book c.make-answer.new.self c.follow_newest.new.table c.make-answer.result c.make-answer.ensures.value c.make-answer.ensures.sound c.follow_newest.ensures c.set_free.ensures.state
    c.set_free.ensures.table
