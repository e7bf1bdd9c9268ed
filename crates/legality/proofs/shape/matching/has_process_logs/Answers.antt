use Rattle.std.proofs.Common.{◌+◌, drop, sym}
use Rattle.std.proofs.lemmas.List.{drop_all}
use Rattle.run_log.specs.Legal.{LogsMatch}
use Rattle.script_core.specs.Processes.{spawns_of}
use Rattle.legality.proofs.Equivalences.{through, of_equal, never}
use Rattle.legality.proofs.LogsMatching.{loader_next, none_over}
use Rattle.legality.proofs.shape.matching.has_process_logs.Goals as goal

-- at the start all is left
pub loop-commands-init : goal.loop-commands-init
loop-commands-init c =
    through (of_equal (λ loaders. LogsMatch (spawns_of 0 loaders) c.args.log.now.processes) _ _ (sym c.as_slice-commands-items.ensures))
    (of_equal (LogsMatch (spawns_of 0 c.as_slice-commands-items.result.now)) _ _ (sym c.as_slice-rest.ensures))

-- a loader without the logs of its spawns
pub returns-in_default : goal.returns-in_default
returns-in_default c =
    let i = c.loop-commands.commands-index in
    let next = loader_next i c.as_slice-commands-items.result.now c.commands-item.result c.commands-item.is c.loop-commands-test.true in
    let here = through c.loop-commands.invariant (of_equal (λ lines. LogsMatch lines c.loop-commands.rest.now) _ _ next) in
    never (through here (c.in_default.ensures i (spawns_of (i + 1) (drop (i + 1) c.as_slice-commands-items.result.now)))).0

-- a loader with them
pub loop-commands-preserved : goal.loop-commands-preserved
loop-commands-preserved c =
    let i = c.loop-commands.commands-index in
    let next = loader_next i c.as_slice-commands-items.result.now c.commands-item.result c.commands-item.is c.loop-commands-test.true in
    let here = through c.loop-commands.invariant (of_equal (λ lines. LogsMatch lines c.loop-commands.rest.now) _ _ next) in
    through here (c.in-Some.ensures i (spawns_of (i + 1) (drop (i + 1) c.as_slice-commands-items.result.now)))

-- no loader is left
pub returns : goal.returns
returns c =
    let last = of_equal (λ loaders. LogsMatch (spawns_of c.loop-commands.commands-index loaders) c.loop-commands.rest.now) _ _ (drop_all _ _ c.loop-commands-test.false) in
    let whole = through (through c.loop-commands.invariant last) (none_over c.loop-commands.rest.now c.is_empty.result c.is_empty.ensures) in
    (whole.1, whole.0)
