use Rattle.word_view.proofs.Lapping.{copies_stay, rests_stay}
use Rattle.word_view.proofs.laws.other_steps_leave_slots.Goals as goal

pub returns-clause-copied : goal.returns-clause-copied
returns-clause-copied c = copies_stay

pub returns-clause-rest : goal.returns-clause-rest
returns-clause-rest c = rests_stay
