use Rattle.script_text.proofs.Common.{arith}
use Rattle.script_text.proofs.FormSteps.{step_goes_on}
use Rattle.script_text.proofs.reading.reader.ScriptReader.take_code.Goals as goal

-- the text begins with its title still
pub count_code-requires-clause-titled : goal.count_code-requires-clause-titled
count_code-requires-clause-titled c = (step_goes_on c.args.self.now.names c.args.self.now.lines c.args.text.now _ c.in-Ok.ensures.read).titled c.requires.titled

-- and has one line more
pub count_code-requires-clause-counted : goal.count_code-requires-clause-counted
count_code-requires-clause-counted c =
    let longer = (step_goes_on c.args.self.now.names c.args.self.now.lines c.args.text.now _ c.in-Ok.ensures.read).longer in
    omega (arith, longer, c.requires.counted)
