-- The code goes on as long as the return at its end does not come next.
use Rattle.std.proofs.Common.{arith, lt-ltb}
use borrow.Author.Tests.{ltb-true}
use Rattle.mod_core.proofs.ReadRows.{has_more, row_inside}
use Rattle.mod_core.proofs.code_reading.has_more.Goals as goal

pub returns-then-row-words-clause-exact : goal.returns-then-row-words-clause-exact
returns-then-row-words-clause-exact c = λ m f h r.
    let exact = has_more c.args.words.now m c.args.number f h c.args.row.now r c.code_end-end.result c.code_end-end.ensures in
    (λ yes. exact.0 (ltb-true _ _ yes), λ below. lt-ltb _ _ (exact.1 below))

pub returns-else-row-words-clause-exact : goal.returns-else-row-words-clause-exact
returns-else-row-words-clause-exact c = λ m f h r.
    (λ yes. absurd (omega (arith, ltb-true _ _ yes)), λ below. lt-ltb _ _ (row_inside c.args.words.now m c.args.number f h c.args.row.now r below))
