use Rattle.run_law.proofs.Said.{journal_said}
use Rattle.run_law.proofs.States.{journal_good}
use Rattle.run_law.proofs.laws.journals_are_sound.Goals as goal

pub returns-clause-sound : goal.returns-clause-sound
returns-clause-sound c = λ names texts journal k j. let h = journal_good names texts journal k j in (h.sound, h.numbered)

pub returns-clause-said : goal.returns-clause-said
returns-clause-said c = λ names s journal script numbered replays in_order. journal_said names s journal script numbered replays in_order
