-- What is none of code is of a key.
use Rattle.staging.proofs.Steps.{key_left}
use Rattle.staging.proofs.stepping.step.Goals as goal

pub step_key-requires-clause-key : goal.step_key-requires-clause-key
step_key-requires-clause-key g c = key_left c.args.change.now c.requires.staged (c.changes_code.ensures.other c.if-changes_code.false)
