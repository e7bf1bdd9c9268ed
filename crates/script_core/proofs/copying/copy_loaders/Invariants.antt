use Rattle.std.proofs.Common.{◌≡◌, take}
use Rattle.script_core.proofs.copying.copy_loaders.Given as goal

-- those so far are copied
abbrev pub invariant-loop-commands : goal.invariant-loop-commands
invariant-loop-commands l = l.copies ≡ take l.commands-index l.loaders
