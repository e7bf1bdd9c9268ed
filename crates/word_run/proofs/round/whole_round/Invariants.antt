use Rattle.std.proofs.Common.{Some}
use Rattle.word_run.specs.Loaders.{TellsOfLoader}
use Rattle.word_run.proofs.round.whole_round.Given as goal

-- the desk as it lies when the round begins, and what desks since then tell of loaders
abbrev pub ghosts-named_round : goal.ghosts-named_round
ghosts-named_round g a = record { began = Some a.desk; answered = TellsOfLoader (Some a.desk) }
