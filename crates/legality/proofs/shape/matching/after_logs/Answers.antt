use Rattle.std.proofs.Common.{◌+◌, ◌++◌, drop}
use Rattle.std.proofs.lemmas.List.{drop_all}
use Rattle.term_core.proofs.Lefts.{left_from}
use Rattle.run_log.specs.Legal.{LogsMatch}
use Rattle.script_core.specs.Processes.{spawns_from}
use Rattle.legality.proofs.Equivalences.{through, of_equal}
use Rattle.legality.proofs.LogsMatching.{anywhere}
use Rattle.legality.proofs.shape.matching.after_logs.Goals as goal

-- a spawn without its log
pub returns-in_default : goal.returns-in_default
returns-in_default c loader more =
    let here = through (c.loop-command.invariant more) (of_equal (λ commands. LogsMatch (spawns_from 0 0 commands ++ more) c.loop-command.rest.now) _ _ (left_from _ _ _ c.command-item.is c.loop-command-test.true)) in
    through (anywhere loader 0 0 0 c.args.commands.now more c.args.processes.now) (through here (c.in_default.ensures (drop (c.loop-command.command-index + 1) c.as_slice-command-items.result.now) more))

-- no command is left
pub returns : goal.returns
returns c loader more =
    let left = of_equal (λ commands. LogsMatch (spawns_from 0 0 commands ++ more) c.loop-command.rest.now) _ _ (drop_all _ _ c.loop-command-test.false) in
    through (anywhere loader 0 0 0 c.args.commands.now more c.args.processes.now) (through (c.loop-command.invariant more) left)
