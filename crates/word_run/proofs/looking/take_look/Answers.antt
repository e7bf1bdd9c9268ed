use Rattle.word_run.proofs.Watching.{had_look}
use Rattle.word_run.proofs.looking.take_look.Goals as goal

-- the answer tells of the look
pub returns : goal.returns
returns g c = had_look _ _ _ _ _ c.look-onlooker.ensures.observes c.look-onlooker.ensures.looked
