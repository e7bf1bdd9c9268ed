-- the commands of the loaders so far are counted
use Rattle.std.proofs.Common.{◌≡◌, take}
use Rattle.run_log.specs.Summary.{command_count}
use Rattle.run_log.proofs.totals.command_count.Given as goal

abbrev pub invariant-loop-commands : goal.invariant-loop-commands
invariant-loop-commands l = l.count ≡ command_count (take l.commands-index l.loaders)
