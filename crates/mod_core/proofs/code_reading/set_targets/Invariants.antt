-- The targets so far are numbers, and those that are left still places.
use Rattle.std.proofs.Common.{◌≡◌, ◌++◌, map, take, drop}
use Rattle.mod_core.specs.ModuleImage.{placed}
use Rattle.mod_core.specs.Decoding.{number_at}
use Rattle.mod_core.proofs.code_reading.set_targets.Given as goal

abbrev pub invariant-loop-instr : goal.invariant-loop-instr
invariant-loop-instr l = l.instrs ≡ map (placed (number_at l.places)) (take l.instr-index l.initial.instrs) ++ drop l.instr-index l.initial.instrs
