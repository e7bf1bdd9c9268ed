use Rattle.std.proofs.Common.{sum_by, sym, ap, ◌∙◌, arith}
use Rattle.std.proofs.lemmas.List.{take_all}
use Rattle.script_core.specs.Processes.{spawn_count}
use Rattle.script_core.proofs.SpawnLines.{all_counted, first_next}
use Rattle.word_run.proofs.process_logs.count_spawns.Goals as goal

-- one loader more
pub loop-commands-preserved : goal.loop-commands-preserved
loop-commands-preserved c =
    omega (arith, first_next c.as_slice-commands-items.result.now c.loop-commands.commands-index c.commands-item.result c.commands-item.is c.loop-commands-test.true, c.loop-commands.invariant, c.count_in-count.ensures)

-- all loaders
pub returns : goal.returns
returns c =
    c.loop-commands.invariant
    ∙ ap (sum_by spawn_count) (take_all c.loop-commands.commands-index c.as_slice-commands-items.result.now c.loop-commands-test.false)
    ∙ ap (sum_by spawn_count) c.as_slice-commands-items.ensures
    ∙ sym (all_counted 0 c.args.script.now.loaders)
