use Rattle.word_permit.proofs.Runs.{book_of_run}
use Rattle.word_run.proofs.Making.{makes_grown}
use Rattle.word_run.proofs.loading.go_on.Goals as goal

-- entries joined at most
pub returns-clause-made : goal.returns-clause-made
returns-clause-made g c ends = makes_grown c.args.permit.now c.advance_op.new.self ends (book_of_run g.K.Naming.names g.N.RunName.run _ c.journal.ensures.kept).permit c.advance_op.ensures.grown

-- also where memory was refused
pub returns-in_err-advance_op-clause-made : goal.returns-in_err-advance_op-clause-made
returns-in_err-advance_op-clause-made g c ends = makes_grown c.args.permit.now c.advance_op.new.self ends (book_of_run g.K.Naming.names g.N.RunName.run _ c.journal.ensures.kept).permit c.advance_op.ensures.grown
