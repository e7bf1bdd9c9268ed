-- The words of a function are six and those of its code.
use Rattle.mod_core.proofs.ValidLemmas.{behind_function}
use Rattle.mod_core.proofs.validity.left_behind.Goals as goal

pub returns : goal.returns
returns c = behind_function c.left_behind_code.result c.args.room c.in_ok-left.left c.args.function.now c.as_slice.result.now c.as_slice.ensures c.in_ok-left.ensures.0 c.in_ok-left.ensures.1 c.left_behind_code.ensures
