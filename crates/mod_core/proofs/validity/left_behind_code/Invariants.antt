-- The words that are left hold those of the instructions to come where the room holds all.
use Rattle.std.proofs.Common.{◌≡◌, ◌+◌, drop}
use Rattle.mod_core.specs.ModuleImage.{code_constants, code_len, constants_len}
use Rattle.mod_core.proofs.validity.left_behind_code.Given as goal

abbrev pub invariant-loop-instr : goal.invariant-loop-instr
invariant-loop-instr l = l.left + (code_len l.code + constants_len (code_constants l.code)) ≡ l.fn.room + (code_len (drop l.instr-index l.code) + constants_len (code_constants (drop l.instr-index l.code)))
