-- By what each kind of change makes of retired areas.
use Rattle.change_laws.proofs.Dropped.{released_after, retired_after}
use Rattle.change_laws.proofs.laws.dropped_areas_are_retired.Goals as goal

pub returns-clause-retired : goal.returns-clause-retired
returns-clause-retired c = λ s change other. retired_after s change other

pub returns-clause-released : goal.returns-clause-released
returns-clause-released c = λ s change other. released_after s change other
