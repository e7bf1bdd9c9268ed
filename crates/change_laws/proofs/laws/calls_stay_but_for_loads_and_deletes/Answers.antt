-- No other change touches what is current, or an instance.
use Rattle.change_laws.proofs.Reached.{others_leave}
use Rattle.change_laws.proofs.laws.calls_stay_but_for_loads_and_deletes.Goals as goal

pub returns : goal.returns
returns c = λ s change to keeps. others_leave s change to keeps
