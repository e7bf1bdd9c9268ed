-- The functions copied so far are the first ones.
use Rattle.std.proofs.Common.{◌≡◌, take}
use Rattle.mod_core.proofs.code.Module.copy.Given as goal

abbrev pub invariant-loop-function : goal.invariant-loop-function
invariant-loop-function l = l.functions ≡ take l.function-index l.function-items
