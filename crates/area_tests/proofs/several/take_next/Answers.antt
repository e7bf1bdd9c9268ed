-- The area is the next one where the answers are the same.
use Rattle.std.proofs.Common.{rules}
use Rattle.area_tests.proofs.Taking.{taken_next}
use Rattle.area_tests.proofs.several.take_next.Goals as goal

pub returns-clause-taken : goal.returns-clause-taken
returns-clause-taken c = λ same. taken_next c.args.at c.args.pools.now c.take.new.self c.take.result c.area_of-area.result c.take.ensures.answered (search rules) c.area_of-area.ensures c.requires.taken
