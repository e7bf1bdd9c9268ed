-- The permit is of the same run.
use Rattle.word_permit.proofs.Runs.{keeps_run}
use Rattle.word_permit.proofs.permit.Permit.seize.Goals as goal

pub invariant_of-self : goal.invariant_of-self
invariant_of-self g c = keeps_run g.K.Naming.names g.N.RunName.run _ _ c.seize.ensures.kept c.self.invariant

pub returns-clause-kept : goal.returns-clause-kept
returns-clause-kept g c = keeps_run g.K.Naming.names g.N.RunName.run _ _ c.seize.ensures.kept c.self.invariant
