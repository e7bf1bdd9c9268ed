-- By what each kind of change makes of versions, keys and retired areas.
use Rattle.change_laws.proofs.AreaUses.{retired_stood, used_stood}
use Rattle.change_laws.proofs.VersionUses.{current_stood, old_stood}
use Rattle.change_laws.proofs.laws.used_areas_stood_or_came.Goals as goal

pub returns-clause-current : goal.returns-clause-current
returns-clause-current c = λ s change name serial e. current_stood s change name serial e

pub returns-clause-old : goal.returns-clause-old
returns-clause-old c = λ s change name serial fits e. old_stood s change name serial fits e

pub returns-clause-used : goal.returns-clause-used
returns-clause-used c = λ s change serial used. used_stood s change serial used

pub returns-clause-retired : goal.returns-clause-retired
returns-clause-retired c = λ s change serial fits h. retired_stood s change serial fits h
