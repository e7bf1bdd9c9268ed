use Rattle.script_text.proofs.PrintedText.{load_at}
use Rattle.script_text.proofs.printing.write_load.Goals as goal

-- the text of a load
pub returns-clause-ok : goal.returns-clause-ok
returns-clause-ok c = load_at c.args.names.now c.args.refs.now c.loop-to.to-index c.args.out.now c.loop-to.out c.loop-to.invariant c.loop-to-test.false
