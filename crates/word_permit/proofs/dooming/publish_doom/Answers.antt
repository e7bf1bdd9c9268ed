-- Where another change was decided, nothing is made.
use Rattle.std.proofs.Common.{refl}
use Rattle.word_permit.proofs.dooming.publish_doom.Goals as goal

pub returns-in-Err-clause-err : goal.returns-in-Err-clause-err
returns-in-Err-clause-err g c = record { same = refl; published = refl; none = c.requires.none }
