-- Its last turn went on.
use Rattle.span_check.proofs.StandingLaws.{still_goes}
use Rattle.span_check.proofs.laws.standings_end.Goals as goal

pub returns : goal.returns
returns c = λ states words number log standing going gone at follow. still_goes states words number log standing going gone at follow
