use Rattle.word_permit.proofs.Runs.{book_of_run}
use Rattle.word_run.proofs.Making.{makes_both, makes_holder}
use Rattle.word_run.proofs.loading.operate_permit.Goals as goal

-- another has the permission
pub returns-then-not-has_permission-clause-made : goal.returns-then-not-has_permission-clause-made
returns-then-not-has_permission-clause-made g c ends = makes_holder _ _ _ ends (book_of_run g.K.Naming.names g.N.RunName.run _ c.journal.ensures.kept).permit c.has_permission.ensures.state

pub returns-clause-made : goal.returns-clause-made
returns-clause-made g c ends =
    makes_both _ _ _ ends ends ends (makes_holder _ _ _ ends (book_of_run g.K.Naming.names g.N.RunName.run _ c.journal.ensures.kept).permit c.has_permission.ensures.state) (c.go_on.ensures.made ends)
