-- Each value is changed in place.
use Rattle.mod_core.proofs.InPlace.{changed_all, changed_more}
use Rattle.machine_core.specs.Process.{no_held}
use Rattle.machine_core.proofs.registers.set_zeros.Goals as goal

pub loop-value-preserved : goal.loop-value-preserved
loop-value-preserved c =
    changed_more (λ _. no_held) c.args.values.now c.loop-value.values c.loop-value.value-index c.value-item.result c.set_zero.new.value c.loop-value-test.true c.loop-value.invariant c.set_zero.ensures

pub returns : goal.returns
returns c = changed_all (λ _. no_held) c.args.values.now c.loop-value.values c.loop-value.value-index c.loop-value-test.false c.loop-value.invariant
