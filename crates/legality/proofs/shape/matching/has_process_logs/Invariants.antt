use Rattle.std.proofs.Common.{◌↔◌, drop}
use Rattle.run_log.specs.Legal.{LogsMatch}
use Rattle.script_core.specs.Processes.{spawns_of}
use Rattle.legality.proofs.shape.matching.has_process_logs.Given as goal

-- the logs fit where those that are left fit the loaders that are left
abbrev pub invariant-loop-commands : goal.invariant-loop-commands
invariant-loop-commands l = LogsMatch (spawns_of 0 l.script.loaders) l.log.processes ↔ LogsMatch (spawns_of l.commands-index (drop l.commands-index l.commands-items)) l.rest
