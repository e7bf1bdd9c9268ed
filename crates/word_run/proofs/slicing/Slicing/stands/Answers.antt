use Rattle.std.proofs.Common.{subst}
use Rattle.word_run.specs.Loaders.{IsUnderLock}
use Rattle.word_run.proofs.slicing.Slicing.stands.Goals as goal

pub returns : goal.returns
returns g c = subst (IsUnderLock g.E.RoundName.began g.E.RoundName.answered) c.self.view_is c.self.invariant
