-- What is written and what is left make up the whole table, and the place is that of the next function.
use Rattle.std.proofs.Common.{◌≡◌, ◌++◌, length, drop}
use Rattle.mod_core.specs.ModuleImage.{code_start, function_heads, place_from}
use Rattle.mod_core.proofs.image.head.push_heads.Given as goal

abbrev pub invariant-loop-function : goal.invariant-loop-function
invariant-loop-function l = record {
  table : l.words ++ function_heads l.place (drop l.function-index l.functions) ≡ l.initial.words ++ function_heads (code_start l.functions) l.functions;
  room : place_from l.place (drop l.function-index l.functions) (length (drop l.function-index l.functions)) ≡ place_from (code_start l.functions) l.functions (length l.functions);
}
