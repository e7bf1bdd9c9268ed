-- The words counted and those of the instructions left are all words of the function.
use Rattle.std.proofs.Common.{◌≡◌, ◌+◌, drop}
use Rattle.mod_core.specs.ModuleImage.{code_len, function_len}
use Rattle.mod_core.proofs.image.head.function_len.Given as goal

abbrev pub invariant-loop-instr : goal.invariant-loop-instr
invariant-loop-instr l = l.len + code_len (drop l.instr-index l.instr-items) ≡ function_len l.function
