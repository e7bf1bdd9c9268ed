use Rattle.script_text.proofs.PrintedText.{block_at}
use Rattle.script_text.proofs.printing.write_block.Goals as goal

-- the text of a block
pub returns-clause-ok : goal.returns-clause-ok
returns-clause-ok c = block_at c.args.names.now c.args.commands.now c.loop-command.command-index c.args.out.now c.loop-command.out c.loop-command.invariant c.loop-command-test.false
