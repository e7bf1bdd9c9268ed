-- Each function's code begins where the words that are written end.
use Rattle.std.proofs.Common.{length, ap, arith}
use Rattle.mod_core.specs.ModuleImage.{function_len}
use Rattle.mod_core.proofs.Coding.{function_among, function_room, function_within, functions_done, functions_end, functions_more, functions_room}
use Rattle.mod_core.proofs.image.function.push_functions.Goals as goal

pub push_function-requires-clause-are_placed : goal.push_function-requires-clause-are_placed
push_function-requires-clause-are_placed c = function_among c.args.functions.now c.loop-function.function-index c.function-item.result c.requires.are_functions (omega arith) c.function-item.is

pub push_function-requires-clause-room : goal.push_function-requires-clause-room
push_function-requires-clause-room c =
    omega (arith, function_within (length c.loop-function.draft.words) c.args.functions.now c.loop-function.function-index c.function-item.result (omega arith), c.loop-function.invariant.code, ap function_len c.function-item.is)

pub push_function-requires-clause-constants : goal.push_function-requires-clause-constants
push_function-requires-clause-constants c =
    omega (arith, c.loop-function.invariant.room, function_room c.args.functions.now c.loop-function.function-index c.function-item.result (omega arith) c.function-item.is)

pub loop-function-preserved : goal.loop-function-preserved
loop-function-preserved c = record {
  completes = λ new rest. c.loop-function.invariant.completes new (functions_more c.loop-function.draft c.push_function.new.draft c.args.functions.now c.loop-function.function-index c.function-item.result (omega arith) c.function-item.is c.in_ok-push_function.ensures new rest);
  code = omega (arith, c.loop-function.invariant.code, functions_end c.loop-function.draft c.push_function.new.draft c.args.functions.now c.loop-function.function-index c.function-item.result (omega arith) c.function-item.is c.in_ok-push_function.ensures);
  room = omega (arith, c.loop-function.invariant.room, functions_room c.loop-function.draft c.push_function.new.draft c.args.functions.now c.loop-function.function-index c.function-item.result (omega arith) c.function-item.is c.in_ok-push_function.ensures);
}

pub returns : goal.returns
returns c = c.loop-function.invariant.completes c.loop-function.draft (functions_done c.loop-function.draft c.args.functions.now c.loop-function.function-index (omega arith))
