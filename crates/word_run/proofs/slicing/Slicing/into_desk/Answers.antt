use Rattle.word_run.proofs.slicing.Slicing.into_desk.Goals as goal

pub returns : goal.returns
returns g c = c.self.invariant.since
