-- By what each kind of change makes of versions, keys and retired areas.
use Rattle.change_laws.proofs.NotForgotten.{incoming_used, retired_kept, used_kept}
use Rattle.change_laws.proofs.laws.no_area_is_forgotten.Goals as goal

pub returns-clause-used : goal.returns-clause-used
returns-clause-used c = λ s change serial fits used. used_kept s change serial fits used

pub returns-clause-retired : goal.returns-clause-retired
returns-clause-retired c = λ s change serial h. retired_kept s change serial h

pub returns-clause-incoming : goal.returns-clause-incoming
returns-clause-incoming c = λ s change place comes fits at. incoming_used s change place comes fits at
