use Rattle.std.proofs.Common.{get_or, length, ap, ◌∙◌, arith}
use Rattle.std.proofs.lemmas.List.{length-set}
use Rattle.script_core.proofs.SpawnLines.{first_next, numbers_more}
use Rattle.script_core.proofs.processes.first_numbers.Goals as goal

-- one loader more
pub loop-loader-preserved : goal.loop-loader-preserved
loop-loader-preserved c =
    let is = c.commands-item.is ∙ ap (λ xs. get_or xs c.loop-loader.loader c.commands-item.result) c.as_slice-commands-items.ensures in
    let next = first_next c.args.loaders.now c.loop-loader.loader c.commands-item.result is (omega (arith, ap length c.as_slice-commands-items.ensures)) in
    record {
      numbers = numbers_more _ _ _ _ (omega (arith, ap length c.as_slice-commands-items.ensures)) c.loop-loader.invariant.next c.loop-loader.invariant.numbers;
      long = length-set c.loop-loader.numbers c.loop-loader.loader c.loop-loader.next ∙ c.loop-loader.invariant.long;
      next = omega (arith, next);
    }
