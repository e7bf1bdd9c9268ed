-- The permit is of the same run.
use Rattle.word_permit.proofs.Runs.{of_run, over_words}
use Rattle.word_permit.proofs.permit.Permit.at_once.Goals as goal

pub make_next-requires-clause-book : goal.make_next-requires-clause-book
make_next-requires-clause-book g c = over_words g.K.Naming.names g.N.RunName.run _ _ _ c.requires.words c.self.invariant

pub invariant_of-self : goal.invariant_of-self
invariant_of-self g c = of_run g.K.Naming.names g.N.RunName.run _ _ _ _ c.requires.words c.self.invariant c.make_next.ensures.script c.make_next.ensures.book

pub returns-clause-kept : goal.returns-clause-kept
returns-clause-kept g c = of_run g.K.Naming.names g.N.RunName.run _ _ _ _ c.requires.words c.self.invariant c.make_next.ensures.script c.make_next.ensures.book
