use Rattle.marks.proofs.MemberSteps.{anchor_stored, turn_stored, known_at_rest, note_joined}
use Rattle.marks.proofs.Opening.{opens}
use Rattle.marks.proofs.laws.members_keep_what_is_known.Goals as goal

pub returns-clause-opening : goal.returns-clause-opening
returns-clause-opening c = λ u process. opens u process

pub returns-clause-note : goal.returns-clause-note
returns-clause-note c = λ u process p k n s none. note_joined u process p k n s none

pub returns-clause-anchor : goal.returns-clause-anchor
returns-clause-anchor c = λ u process p k place old new s backed over awake has at may. anchor_stored u process p k place old new s backed over awake has at may

pub returns-clause-turn : goal.returns-clause-turn
returns-clause-turn c = λ u process p k turns s backed over has next. turn_stored u process p k turns s backed over has next

pub returns-clause-rest : goal.returns-clause-rest
returns-clause-rest c = λ u v process p k s rest later. known_at_rest u v process p k s rest later
