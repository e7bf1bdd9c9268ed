-- Each kind of change, by what is known of the states that it leaves.
use Rattle.change_laws.proofs.GivenSerials.{serials_given}
use Rattle.change_laws.proofs.SoundChanges.{change_sound}
use Rattle.change_laws.proofs.laws.changes_keep_sound.Goals as goal

pub returns-clause-sound : goal.returns-clause-sound
returns-clause-sound c = λ s change sound fits. change_sound s change sound fits

pub returns-clause-serials : goal.returns-clause-serials
returns-clause-serials c = λ s change. serials_given s change
