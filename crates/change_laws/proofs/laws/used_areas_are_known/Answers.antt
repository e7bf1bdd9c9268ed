-- By what is known of a sound state.
use Rattle.change_laws.proofs.Dropped.{old_not_current, used_known, used_not_dropped}
use Rattle.change_laws.proofs.laws.used_areas_are_known.Goals as goal

pub returns-clause-known : goal.returns-clause-known
returns-clause-known c = λ s serial sound used. used_known s serial sound used

pub returns-clause-dropped : goal.returns-clause-dropped
returns-clause-dropped c = λ s serial sound used. used_not_dropped s serial sound used

pub returns-clause-apart : goal.returns-clause-apart
returns-clause-apart c = λ s serial sound old current. old_not_current s serial sound old current
