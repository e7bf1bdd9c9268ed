-- The permit is of the run that its tables and its script are of.
use Rattle.word_permit.proofs.Runs.{begun_of_run}
use Rattle.word_permit.proofs.permit.Permit.new.Goals as goal

pub invariant_of-result : goal.invariant_of-result
invariant_of-result g c = begun_of_run g.K.Naming.names g.N.RunName.run c.args.script c.args.tables _ c.requires.run c.in_ok-book.ensures.begun.script_is c.in_ok-book.ensures.book

pub returns-clause-kept : goal.returns-clause-kept
returns-clause-kept g c = begun_of_run g.K.Naming.names g.N.RunName.run c.args.script c.args.tables _ c.requires.run c.in_ok-book.ensures.begun.script_is c.in_ok-book.ensures.book
