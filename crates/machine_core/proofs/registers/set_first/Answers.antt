-- One argument more has been given.
use Rattle.std.proofs.Common.{◌∙◌, ap}
use Rattle.std.proofs.Math.ListN.{set}
use Rattle.machine_core.proofs.FirstRegisters.{set_next}
use Rattle.machine_core.proofs.registers.set_first.Goals as goal

pub loop-at-preserved : goal.loop-at-preserved
loop-at-preserved c =
    c.set_at.ensures ∙ (λ t. set (c.loop-at.invariant t) c.loop-at.at c.in_ok-copy.field-0) ∙ ap (set _ c.loop-at.at) (c.in_ok-copy.ensures ∙ c.index-values-at.is) ∙ set_next c.args.values.now c.loop-at.at c.index-values-at.result c.loop-at-test.true
