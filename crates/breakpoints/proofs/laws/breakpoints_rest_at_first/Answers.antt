use Rattle.breakpoints.proofs.AtFirst.{rest_at_first}
use Rattle.breakpoints.proofs.laws.breakpoints_rest_at_first.Goals as goal

pub returns : goal.returns
returns c = rest_at_first
