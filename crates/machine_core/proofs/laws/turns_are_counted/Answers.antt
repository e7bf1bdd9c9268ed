use Rattle.machine_core.proofs.TurnLaws.{again_counts_by, limit_ends_by, turn_counts_by}
use Rattle.machine_core.proofs.laws.turns_are_counted.Goals as goal

pub returns : goal.returns
returns c = λ r p. record { more = turn_counts_by r p; again = again_counts_by r p; limit = limit_ends_by r p }
