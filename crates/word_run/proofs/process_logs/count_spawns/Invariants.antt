use Rattle.std.proofs.Common.{◌≡◌}
use Rattle.script_core.specs.Processes.{first_number}
use Rattle.word_run.proofs.process_logs.count_spawns.Given as goal

-- the processes of the loaders so far
abbrev pub invariant-loop-commands : goal.invariant-loop-commands
invariant-loop-commands l = l.count ≡ first_number l.commands-items l.commands-index
