use Rattle.machine_core.proofs.TurnLaws.{turn_ended_by, turn_holds_by}
use Rattle.machine_core.proofs.laws.turns_hold_what_is_named.Goals as goal

pub returns : goal.returns
returns c = λ r p. record { again = turn_holds_by r p; ended = turn_ended_by r p }
