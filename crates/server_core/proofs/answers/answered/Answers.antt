-- Each answer is that of its test.
use Rattle.std.proofs.Common.{ap, sym}
use Rattle.server_core.specs.CommandTable.{answered}
use Rattle.server_core.proofs.answers.answered.Goals as goal

pub returns-then-yes : goal.returns-then-yes
returns-then-yes c = sym (ap answered c.if-yes.true)

pub returns-else-yes : goal.returns-else-yes
returns-else-yes c = sym (ap answered c.if-yes.false)
