-- The words of the areas that are known stay.
use Rattle.span_check.proofs.StandingLaws.{ready_later, stands_later}
use Rattle.span_check.proofs.laws.standings_stay.Goals as goal

pub returns-clause-stands : goal.returns-clause-stands
returns-clause-stands c = λ older newer states number log standing has ready at. stands_later older newer has states number log standing ready at

pub returns-clause-ready : goal.returns-clause-ready
returns-clause-ready c = λ older newer standing has ready. ready_later older newer standing has ready
