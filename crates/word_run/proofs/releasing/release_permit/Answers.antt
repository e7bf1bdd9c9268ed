use Rattle.word_permit.proofs.Runs.{book_of_run}
use Rattle.word_run.proofs.Making.{makes_pump}
use Rattle.word_run.proofs.releasing.release_permit.Goals as goal

-- at most a release joined
pub returns-clause-made : goal.returns-clause-made
returns-clause-made g c ends = makes_pump c.args.permit.now c.pump.new.self (book_of_run g.K.Naming.names g.N.RunName.run _ c.journal.ensures.kept).permit ends c.pump.result c.pump.ensures.ok c.pump.ensures.err

-- also where memory was refused
pub returns-in_err-pumped-clause-made : goal.returns-in_err-pumped-clause-made
returns-in_err-pumped-clause-made g c ends = makes_pump c.args.permit.now c.pump.new.self (book_of_run g.K.Naming.names g.N.RunName.run _ c.journal.ensures.kept).permit ends c.pump.result c.pump.ensures.ok c.pump.ensures.err
