use Rattle.std.proofs.Common.{◌↔◌, ◌++◌, List, drop}
use Rattle.script_core.specs.Processes.{SpawnLine, spawns_from}
use Rattle.run_log.specs.Legal.{LogsMatch}
use Rattle.legality.proofs.shape.matching.after_logs.Given as goal

-- the logs fit where those that are left fit the commands that are left
abbrev pub invariant-loop-command : goal.invariant-loop-command
invariant-loop-command l =
    (more : List SpawnLine) → LogsMatch (spawns_from 0 0 l.commands ++ more) l.processes ↔ LogsMatch (spawns_from 0 0 (drop l.command-index l.command-items) ++ more) l.rest
