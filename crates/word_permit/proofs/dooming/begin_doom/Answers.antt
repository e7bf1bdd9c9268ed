-- The doom is published, and the purge waits.
use Rattle.std.proofs.Common.{◌∙◌}
use Rattle.word_permit.proofs.PurgeCalls.{doom_waits}
use Rattle.word_permit.proofs.dooming.begin_doom.Goals as goal

pub returns-in-Ok-clause-ok : goal.returns-in-Ok-clause-ok
returns-in-Ok-clause-ok g c =
    doom_waits c.args.who c.args.book.now c.publish_doom.new.book c.begin_look.new.book c.args.code.«module» c.requires.holds c.requires.next c.in-Ok.ensures.ok c.publish_doom.ensures.none c.begin_look.ensures.same c.begin_look.result c.begin_look.ensures.late

pub returns-in-Ok-clause-need : goal.returns-in-Ok-clause-need
returns-in-Ok-clause-need g c = c.begin_look.ensures.need ∙ c.publish_doom.ensures.need
