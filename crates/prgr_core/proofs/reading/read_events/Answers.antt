use Rattle.prgr_core.proofs.Grammars.{found_by, only_by}
use Rattle.prgr_core.proofs.FirstFaults.{first_by}
use Rattle.prgr_core.proofs.reading.read_events.Goals as goal

-- what is read is a text of the grammar
pub returns-clause-found : goal.returns-clause-found
returns-clause-found c = found_by c.args.text.now c.text_events.result c.text_events.ensures

-- and every text of the grammar is read
pub returns-clause-only : goal.returns-clause-only
returns-clause-only c = λ events is. only_by c.args.text.now c.text_events.result events is c.text_events.ensures

-- a refusal names the first line of another form
pub returns-clause-first : goal.returns-clause-first
returns-clause-first c = first_by c.args.text.now c.text_events.result c.text_events.ensures
