use Rattle.std.proofs.Common.{◌≡◌, take}
use Rattle.script_core.proofs.copying.copy_modules.Given as goal

-- those so far are copied
abbrev pub invariant-loop-module : goal.invariant-loop-module
invariant-loop-module l = l.copies ≡ take l.module-index l.modules
