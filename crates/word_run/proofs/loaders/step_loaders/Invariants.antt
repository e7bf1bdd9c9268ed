use Rattle.std.proofs.Common.{length}
use Rattle.word_run.specs.Loaders.{TellsOfLoaders}
use Rattle.word_run.proofs.loaders.step_loaders.Given as goal

-- the first loaders were asked
abbrev pub invariant-loop-who : goal.invariant-loop-who
invariant-loop-who g l = TellsOfLoaders g.E.RoundName.answered l.number (length l.inboxes) l.who l.over
