-- By the last of the turns up to the generation.
use Rattle.span_check.proofs.StandingLaws.{names_not, stands_not}
use Rattle.span_check.proofs.laws.standings_are_last.Goals as goal

pub returns-clause-stands : goal.returns-clause-stands
returns-clause-stands c = λ states words number log standing g reached at. stands_not states words number log standing g reached at

pub returns-clause-names : goal.returns-clause-names
returns-clause-names c = λ states words number log standing g reached at. names_not states words number log standing g reached at
