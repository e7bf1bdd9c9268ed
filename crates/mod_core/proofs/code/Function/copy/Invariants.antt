-- The instructions copied so far are the first ones.
use Rattle.std.proofs.Common.{◌≡◌, take}
use Rattle.mod_core.proofs.code.Function.copy.Given as goal

abbrev pub invariant-loop-instr : goal.invariant-loop-instr
invariant-loop-instr l = l.code ≡ take l.instr-index l.instr-items
