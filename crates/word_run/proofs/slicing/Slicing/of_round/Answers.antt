use Rattle.word_run.proofs.slicing.Slicing.of_round.Goals as goal

pub invariant_of-result : goal.invariant_of-result
invariant_of-result g c = c.requires
