use Rattle.std.proofs.Common.{refl}
use Rattle.shared_words.specs.Slots.{with_slot}
use Rattle.word_view.proofs.Lapping.{beginning_stays, known_on, marked_anchors, other_anchors}
use Rattle.word_view.proofs.laws.stores_leave_other_processes.Goals as goal

pub returns-clause-turn : goal.returns-clause-turn
returns-clause-turn c = λ v w other gone apart h. beginning_stays v w other gone apart h

pub returns-clause-anchors : goal.returns-clause-anchors
returns-clause-anchors c = λ names opening process other old new stored apart. known_on names opening other old new stored.same (other_anchors process other old new stored apart)

pub returns-clause-mark : goal.returns-clause-mark
returns-clause-mark c = λ names opening process other turns m. known_on names opening other m (with_slot process 0 turns m) refl (marked_anchors process other turns m)
