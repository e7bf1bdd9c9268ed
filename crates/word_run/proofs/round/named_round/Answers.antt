use Rattle.word_run.proofs.Rounding.{named_adds, named_begins, named_homes}
use Rattle.word_run.proofs.round.named_round.Goals as goal

-- nothing was made as the round begins
pub of_round-requires : goal.of_round-requires
of_round-requires g c = named_begins _ _ _ c.requires.began c.requires.answers

pub take_both-both-requires-clause-homes : goal.take_both-both-requires-clause-homes
take_both-both-requires-clause-homes g c = λ κs within. named_homes _ _ _ c.requires.began c.requires.homes

-- what lies there at its end
pub returns-clause-adds : goal.returns-clause-adds
returns-clause-adds g c = named_adds _ _ _ c.requires.began c.into_desk.ensures
