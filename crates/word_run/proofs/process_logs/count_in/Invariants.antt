use Rattle.std.proofs.Common.{◌≡◌, ◌≤◌, take, sum_by}
use Rattle.script_core.specs.Processes.{spawns_in}
use Rattle.word_run.proofs.process_logs.count_in.Given as goal

-- the spawns among the commands so far, at most as many as these
abbrev pub invariant-loop-command : goal.invariant-loop-command
invariant-loop-command l = (l.count ≡ sum_by spawns_in (take l.command-index l.command-items)) × (l.count ≤ l.command-index)
