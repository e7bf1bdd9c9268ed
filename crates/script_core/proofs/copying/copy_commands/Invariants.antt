use Rattle.std.proofs.Common.{◌≡◌, take}
use Rattle.script_core.proofs.copying.copy_commands.Given as goal

-- those so far are copied
abbrev pub invariant-loop-command : goal.invariant-loop-command
invariant-loop-command l = l.copies ≡ take l.command-index l.commands
