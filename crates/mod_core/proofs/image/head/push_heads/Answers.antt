-- The words of each function end within the image.
use Rattle.std.proofs.Common.{ap, arith}
use Rattle.mod_core.specs.ModuleImage.{function_len}
use Rattle.mod_core.proofs.Coding.{function_within}
use Rattle.mod_core.proofs.image.head.push_heads.Goals as goal

pub function_len-place-requires : goal.function_len-place-requires
function_len-place-requires c =
    omega (arith, function_within c.loop-function.place c.args.functions.now c.loop-function.function-index c.function-item.result (omega arith), c.loop-function.invariant.room, ap function_len c.function-item.is)

pub overflow_add-place-in-loop-function : goal.overflow_add-place-in-loop-function
overflow_add-place-in-loop-function c =
    omega (arith, function_within c.loop-function.place c.args.functions.now c.loop-function.function-index c.function-item.result (omega arith), c.loop-function.invariant.room, ap function_len c.function-item.is)
