-- Where the words that are left do not suffice, the image is too long.
use Rattle.std.proofs.Common.{rules}
use Rattle.std.proofs.lemmas.Bool.{false≢true}
use Rattle.mod_core.proofs.ValidLemmas.{too_many, few_enough}
use Rattle.mod_core.proofs.validity.are_short.Goals as goal

pub returns-in-None : goal.returns-in-None
returns-in-None c = (
  λ no. absurd (false≢true no),
  λ short. absurd (too_many c.args.functions.now c.loop-function.function-index _ c.loop-function.left c.loop-function-test.true c.function-item.is c.loop-function.invariant c.in-None.ensures short),
)

pub returns : goal.returns
returns c = (λ _. few_enough c.args.functions.now c.loop-function.function-index c.loop-function.left c.loop-function-test.false c.loop-function.invariant, λ _. search rules)
