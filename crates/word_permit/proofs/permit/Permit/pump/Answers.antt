-- The permit is of the same run.
use Rattle.word_permit.proofs.Runs.{of_run, over_words}
use Rattle.word_permit.proofs.permit.Permit.pump.Goals as goal

pub pump_book-requires : goal.pump_book-requires
pump_book-requires g c = record { book = over_words g.K.Naming.names g.N.RunName.run _ _ _ c.requires.words c.self.invariant }

pub invariant_of-self : goal.invariant_of-self
invariant_of-self g c = of_run g.K.Naming.names g.N.RunName.run _ _ _ _ c.requires.words c.self.invariant c.pump_book.ensures.script c.pump_book.ensures.book

pub returns-clause-kept : goal.returns-clause-kept
returns-clause-kept g c = of_run g.K.Naming.names g.N.RunName.run _ _ _ _ c.requires.words c.self.invariant c.pump_book.ensures.script c.pump_book.ensures.book
